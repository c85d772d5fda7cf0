-- The standings have no part yet.
use Rattle.{std.proofs.Common.◌∙◌, koth_standings.specs.PartText.head_parts, koth_rank.proofs.PartsJoined.none_joined}
use Rattle.koth_rank.proofs.joining.table_after.Goals as goal

pub summed_table-requires-clause-none : goal.summed_table-requires-clause-none
summed_table-requires-clause-none g c = (none_joined (head_parts c.args.first.now.head) _ c.in-Ok.standings c.in-Ok.ensures).0

pub summed_table-requires-clause-many : goal.summed_table-requires-clause-many
summed_table-requires-clause-many g c = (none_joined (head_parts c.args.first.now.head) _ c.in-Ok.standings c.in-Ok.ensures).1 ∙ c.len.ensures ∙ c.args.first.now.rows.ok.0
