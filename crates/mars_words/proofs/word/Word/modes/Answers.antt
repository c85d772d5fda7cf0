use Rattle.{std.proofs.{Common.{◌/◌, ◌^◌, ◌∙◌}, lemmas.Nat.and_mask}, mars_words.proofs.Words.modes_are_read}
use Rattle.mars_words.proofs.word.Word.modes.Goals as goal

pub returns : goal.returns
returns c = and_mask (c.self.inside.bits / 2 ^ 32) 6 ∙ modes_are_read c.self.inside.bits c.args.self c.self.invariant c.self.view_is
