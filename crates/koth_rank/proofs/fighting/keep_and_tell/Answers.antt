-- Memory ran out, or the line is kept.
use Rattle.koth_rank.proofs.Fought.{memory_not_done, no_line}
use Rattle.koth_rank.proofs.fighting.keep_and_tell.Goals as goal

pub returns-in-Err-clause-kept : goal.returns-in-Err-clause-kept
returns-in-Err-clause-kept g c done = memory_not_done c.memory.result c.tell.result _ _ c.memory.ensures c.tell.ensures done

pub returns-in-Err-clause-ends : goal.returns-in-Err-clause-ends
returns-in-Err-clause-ends g c = no_line _ c.memory.result c.tell.result _ _ _ c.memory.ensures c.tell.ensures
