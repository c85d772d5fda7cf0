-- The table comes after the matches, if there is memory for it.
use Rattle.{koth_rank.proofs.Ranked.{ends_table, matches_failed, no_standings}}
use Rattle.koth_rank.proofs.ranking.rank_field.Goals as goal

pub returns-in_default : goal.returns-in_default
returns-in_default g c = no_standings _ _ _ c.memory.result c.tell.result _ _ _ c.memory.ensures c.tell.ensures

pub returns-in-Done : goal.returns-in-Done
returns-in-Done g c =
    ends_table _ _ _ _ _ _ _ _ _ c.in-Done.ensures.2 c.in-Done.ensures.3 c.told_of-told.result c.write_line.result c.told_of-told.ensures c.write_line.ensures

pub returns : goal.returns
returns g c = matches_failed _ _ _ _ _ c.fight_field.result _ _ _ _ c.in_default-fight_field.not-Done c.fight_field.ensures
