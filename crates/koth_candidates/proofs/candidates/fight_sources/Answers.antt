-- Each opponent has a warrior, or not.
use Rattle.{std.proofs.Common.{inl, inr}, koth_candidates.proofs.Answering.no_field}
use Rattle.koth_candidates.proofs.candidates.fight_sources.Goals as goal

pub returns-in-Done : goal.returns-in-Done
returns-in-Done g c = inl (_, c.in-Done.ensures.ends.0, (_, c.in-Done.ensures.ends.1, rw c.as_slice.ensures.value at c.answer_input.ensures))

pub returns : goal.returns
returns g c = inr (no_field _ _ _ c.field_of.result _ _ _ c.in_default.not-Done c.field_of.ensures.ends)
