-- The candidates are answered, if there is memory for the first.
use Rattle.koth_candidates.proofs.Answering.{none_answered}
use Rattle.koth_candidates.proofs.candidates.answer_input.Goals as goal

pub returns-in_default : goal.returns-in_default
returns-in_default g c = none_answered _ _ c.memory.result c.tell.result _ _ _ c.memory.ensures c.tell.ensures

pub returns-in_default-new : goal.returns-in_default-new
returns-in_default-new g c = none_answered _ _ c.memory-in_default-new.result c.tell-in_default-new.result _ _ _ c.memory-in_default-new.ensures c.tell-in_default-new.ensures

pub returns : goal.returns
returns g c = (_, (_, c.answer_all.ensures))
