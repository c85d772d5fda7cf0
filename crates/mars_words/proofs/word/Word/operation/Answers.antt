use Rattle.{std.proofs.{Common.{◌/◌, ◌^◌, ◌∙◌}, lemmas.Nat.and_mask}, mars_words.proofs.Words.operation_is_read}
use Rattle.mars_words.proofs.word.Word.operation.Goals as goal

pub returns : goal.returns
returns c = and_mask (c.self.inside.bits / 2 ^ 38) 7 ∙ operation_is_read c.self.inside.bits c.args.self c.self.invariant c.self.view_is
