use Rattle.{std.proofs.{Common.{◌/◌, ◌^◌, ap, ◌∙◌}, lemmas.Nat.and_mask}, mars_words.specs.Words.{Word, modifier_at}}
use Rattle.mars_words.proofs.word.Word.modifier.Goals as goal

pub returns : goal.returns
returns c = c.modifier_at.ensures ∙ (ap modifier_at (and_mask (c.self.inside.bits / 2 ^ 38) 3) ∙ ap (λ (w : Word). w.instr.modifier) c.self.view_is)
