-- The files are put in order, and then read.
use Rattle.{std.proofs.Common.length, koth_rank.proofs.PartsJoined.joined_after}
use Rattle.koth_rank.proofs.joining.table_joined.Goals as goal

pub returns-in-Ok : goal.returns-in-Ok
returns-in-Ok g c = joined_after c.ordered_table.result c.args.view (length c.args.files.now) _ _ _ c.in-Ok.ensures.1 c.ordered_table.ensures
