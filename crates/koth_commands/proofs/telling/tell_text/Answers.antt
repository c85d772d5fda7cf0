-- Whole, or as far as standard error took it.
use Rattle.{std.proofs.Common.refl, koth_commands.proofs.Told.in_part}
use Rattle.koth_commands.proofs.telling.tell_text.Goals as goal

pub returns-clause-part : goal.returns-clause-part
returns-clause-part g c = in_part c.write_told.result _ _ _ _ refl c.write_told.ensures.whole c.write_told.ensures.part
