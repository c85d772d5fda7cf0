use Rattle.{std.proofs.{Common.{◌/◌, ◌^◌, ◌∙◌}, lemmas.Nat.and_mask}, mars_words.proofs.Words.handler_is_read}
use Rattle.mars_words.proofs.word.Word.handler.Goals as goal

pub returns : goal.returns
returns c = and_mask (c.self.inside.bits / 2 ^ 57) 6 ∙ handler_is_read c.self.inside.bits c.args.self c.self.invariant c.self.view_is
