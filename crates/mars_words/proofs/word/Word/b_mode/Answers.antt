use Rattle.{std.proofs.{Common.{◌/◌, ◌^◌, ap, ◌∙◌}, lemmas.Nat.and_mask}, mars_words.specs.Words.{Word, mode_at}}
use Rattle.mars_words.proofs.word.Word.b_mode.Goals as goal

pub returns : goal.returns
returns c = c.mode_at.ensures ∙ (ap mode_at (and_mask (c.self.inside.bits / 2 ^ 32) 3) ∙ ap (λ (w : Word). w.instr.b_mode) c.self.view_is)
