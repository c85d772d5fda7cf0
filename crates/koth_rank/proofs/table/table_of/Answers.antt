-- The lines are in the order of the ranking.
use Rattle.{std.proofs.Common.{◌<◌, All, length, map, subst, sym}, koth_json.specs.Contest.contender_parts, koth_rank.{proofs.Ranked.{tabled, within_field}}}
use Rattle.koth_rank.proofs.table.table_of.Goals as goal

pub lines_of-requires-clause-within : goal.lines_of-requires-clause-within
lines_of-requires-clause-within g c =
    subst (λ l. All (λ place. place < length c.args.contenders.now) l) (sym c.as_slice.ensures.value) (within_field _ _ _ c.requires c.in-Ok.ensures)

pub returns-in-Ok : goal.returns-in-Ok
returns-in-Ok g c = tabled c.args.view (map contender_parts c.args.contenders.now) _ c.in-Ok.ranked.items c.as_slice.result.now c.lines_of.result c.in-Ok.ensures c.as_slice.ensures.value c.lines_of.ensures
