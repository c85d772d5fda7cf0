-- Some text is written, or none.
use Rattle.{std.proofs.Common.refl, koth_commands.proofs.Told.{in_part, writes_nothing}}
use Rattle.koth_rank.proofs.progress.tell_matches.Goals as goal

pub returns-in-Ok : goal.returns-in-Ok
returns-in-Ok g c = (_, in_part c.write_whole.result _ _ _ _ refl c.write_whole.ensures.whole c.write_whole.ensures.part)

pub returns-in_default : goal.returns-in_default
returns-in_default g c = writes_nothing (g.E.Write.contents c.args.errors.now)
