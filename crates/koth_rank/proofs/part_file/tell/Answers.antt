-- Some text is written.
use Rattle.{std.proofs.Common.refl, koth_commands.proofs.Told.in_part}
use Rattle.koth_rank.proofs.part_file.tell.Goals as goal

pub returns : goal.returns
returns g c = (_, in_part c.write_whole.result _ _ _ _ refl c.write_whole.ensures.whole c.write_whole.ensures.part)
