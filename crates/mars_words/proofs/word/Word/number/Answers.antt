use Rattle.{std.proofs.{Common.{ℕ, ◌/◌, ◌^◌, ◌<◌, sym, ap, subst, ◌∙◌}, lemmas.Nat.and_mask}, mars_words.specs.Words.Word}
use Rattle.mars_words.proofs.word.Word.number.Goals as goal

pub returns-in-A-clause-value : goal.returns-in-A-clause-value
returns-in-A-clause-value c = rw c.in-A.is (and_mask (c.self.inside.bits / 2 ^ 16) 16 ∙ ap (λ (w : Word). w.instr.a) c.self.view_is)

pub returns-in-A-clause-below : goal.returns-in-A-clause-below
returns-in-A-clause-below c size numbers = subst (λ (n : ℕ). n < size) (sym (and_mask (c.self.inside.bits / 2 ^ 16) 16 ∙ ap (λ (w : Word). w.instr.a) c.self.view_is)) numbers.a

pub returns-in-B-clause-value : goal.returns-in-B-clause-value
returns-in-B-clause-value c = rw c.in-B.is (and_mask c.self.inside.bits 16 ∙ ap (λ (w : Word). w.instr.b) c.self.view_is)

pub returns-in-B-clause-below : goal.returns-in-B-clause-below
returns-in-B-clause-below c size numbers = subst (λ (n : ℕ). n < size) (sym (and_mask c.self.inside.bits 16 ∙ ap (λ (w : Word). w.instr.b) c.self.view_is)) numbers.b
