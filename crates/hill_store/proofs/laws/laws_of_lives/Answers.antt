use Rattle.hill_store.proofs.Living.{laws}
use Rattle.hill_store.proofs.laws.laws_of_lives.Goals as goal

pub returns : goal.returns
returns c = laws
