use Rattle.hill_store.proofs.Fought.{laws_of_kept}
use Rattle.hill_store.proofs.laws.laws_of_kept.Goals as goal

pub returns : goal.returns
returns c = laws_of_kept
