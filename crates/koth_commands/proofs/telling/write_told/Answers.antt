-- The text follows the word.
use Rattle.{std.proofs.Common.{ap, ◌++◌}, koth_commands.proofs.Told.{both_err, first_err}}
use Rattle.koth_commands.proofs.telling.write_told.Goals as goal

pub returns-in_err-write_whole-clause-part : goal.returns-in_err-write_whole-clause-part
returns-in_err-write_whole-clause-part g c = first_err _ _ _ _ _ _ c.as_bytes.ensures.value c.in_err-write_whole.ensures.part

pub returns-clause-part : goal.returns-clause-part
returns-clause-part g c =
    both_err c.write_both.result _ _ _ _ _ _ _ c.as_bytes.ensures.value (ap (λ t. t ++ c.args.text.now) c.text.ensures)
    c.in_ok-write_whole.ensures.whole c.write_both.ensures.part
