-- The note is a word with its cause, and so with some text.
use Rattle.{std.proofs.Common.{inr, Some}, koth_commands.proofs.Told.cause_word}
use Rattle.koth_hills.proofs.damage.tell_lost_header.Goals as goal

pub returns-then-has_lost_header : goal.returns-then-has_lost_header
returns-then-has_lost_header g c = inr (cause_word _ (Some c.file.result) _ _ c.tell_word.ensures)
