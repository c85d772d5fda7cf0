-- The second text follows the first.
use Rattle.{std.proofs.Common.refl, koth_commands.proofs.Told.{both_err, first_err}}
use Rattle.koth_commands.proofs.telling.write_both.Goals as goal

pub returns-in_err-write_whole-clause-part : goal.returns-in_err-write_whole-clause-part
returns-in_err-write_whole-clause-part g c = first_err _ _ _ _ _ _ refl c.in_err-write_whole.ensures.part

pub returns-clause-part : goal.returns-clause-part
returns-clause-part g c = both_err c.write_whole-2.result _ _ _ _ _ _ _ refl refl c.in_ok-write_whole.ensures.whole c.write_whole-2.ensures.part
