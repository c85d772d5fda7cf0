-- The field is ranked, whether it lacks a warrior or not.
use Rattle.{koth_rank.proofs.Ranked.{all_there, read_failed, some_missing}}
use Rattle.koth_rank.proofs.ranking.rank_sources.Goals as goal

pub returns-in-Done : goal.returns-in-Done
returns-in-Done g c = all_there _ _ _ _ _ _ _ _ _ c.rank_field.result c.in-Done.ensures.ends
    (rw c.as_slice.ensures.value at c.rank_field.ensures)

pub returns-in-Refused : goal.returns-in-Refused
returns-in-Refused g c = some_missing _ _ _ _ _ _ _ _ _ c.rank_field-in-Refused.result c.refused_after.result c.refused_after.ensures c.in-Refused.ensures.ends
    (rw c.as_slice-field.ensures.value at c.rank_field-in-Refused.ensures)

pub returns : goal.returns
returns g c = read_failed _ _ _ _ c.field_of.result _ _ _ c.in_default.not-Done c.in_default.not-Refused c.field_of.ensures.ends
