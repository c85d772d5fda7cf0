use Rattle.{std.proofs.{Common.{◌/◌, ◌^◌, ap, ◌∙◌}, lemmas.Nat.and_mask}, mars_words.specs.Words.{Word, op_at}}
use Rattle.mars_words.proofs.word.Word.op.Goals as goal

pub returns : goal.returns
returns c = c.op_at.ensures ∙ (ap op_at (and_mask (c.self.inside.bits / 2 ^ 41) 4) ∙ ap (λ (w : Word). w.instr.op) c.self.view_is)
