-- The part is taken, or isn't.
use Rattle.koth_rank.proofs.PartsJoined.{fails_one, one_after}
use Rattle.koth_rank.proofs.joining.join_bytes.Goals as goal

pub returns-in-Ok-clause-joins : goal.returns-in-Ok-clause-joins
returns-in-Ok-clause-joins g c = one_after _ _ _ _ _ _ _ _ _ c.in-Ok.ensures c.take_part.ensures.joins

pub returns-in-Err-clause-joins : goal.returns-in-Err-clause-joins
returns-in-Err-clause-joins g c = fails_one _ _ _ _ _ _ _ _ c.in-Err.ensures
