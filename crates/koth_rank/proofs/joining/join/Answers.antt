-- The table is written, if there is one.
use Rattle.{std.proofs.{Common.{inr, length}, KnownBytes.Keeps-refl}, koth_rank.proofs.PartsJoined.table_written}
use Rattle.koth_rank.proofs.joining.join.Goals as goal

pub returns-in-Ok : goal.returns-in-Ok
returns-in-Ok g c = table_written c.args.view (length c.args.files.now) _ c.write_line.result _ _ _ _ _ c.in-Ok.ensures.0 c.in-Ok.ensures.1 c.write_line.ensures

pub returns-in-Err : goal.returns-in-Err
returns-in-Err g c = inr (inr (Keeps-refl (g.O.Write.contents c.args.output.now), c.in-Err.ensures))
