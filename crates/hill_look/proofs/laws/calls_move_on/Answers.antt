use Rattle.hill_look.proofs.Calls.{calls_move_on}
use Rattle.hill_look.proofs.laws.calls_move_on.Goals as goal

pub returns : goal.returns
returns c = calls_move_on
