-- The first part is read, and then all are.
use Rattle.{std.proofs.{Common.length, KnownBytes.Keeps-trans}, koth_rank.proofs.PartsJoined.{fails_after, joined_after}}
use Rattle.koth_rank.proofs.joining.ordered_table.Goals as goal

pub returns-in-Ok-part_in : goal.returns-in-Ok-part_in
returns-in-Ok-part_in g c =
    joined_after c.table_after.result c.args.view (length c.args.files.now) _ _ _ (Keeps-trans _ _ _ c.in-Ok.ensures c.in-Ok-part_in.ensures) c.table_after.ensures

pub returns : goal.returns
returns g c = fails_after c.in-Err-part_in.status _ _ _ c.in-Ok.ensures c.in-Err-part_in.ensures
