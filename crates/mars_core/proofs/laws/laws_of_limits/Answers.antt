use Rattle.mars_core.proofs.Reaches.{side_turn-whole}
use Rattle.mars_core.proofs.laws.laws_of_limits.Goals as goal

pub returns : goal.returns
returns c = λ size limit core queue is addresses. side_turn-whole size limit core queue addresses.addresses
