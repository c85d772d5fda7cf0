-- Some text is written.
use Rattle.{std.proofs.Common.refl, koth_commands.proofs.Told.in_part}
use Rattle.koth_candidates.proofs.candidates.refuse.Goals as goal

pub returns-clause-told : goal.returns-clause-told
returns-clause-told g c = (_, in_part c.write_whole.result _ _ _ _ refl c.write_whole.ensures.whole c.write_whole.ensures.part)
