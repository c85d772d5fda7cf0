use Rattle.{std.proofs.Common.{◌/◌, ◌^◌, ◌==◌, Bool, ◌&&◌, bit_and, sym, ap, ◌∙◌, eq-eqb, ne_eqb}, mars_words.proofs.Words.are_plain-shifted}
use Rattle.mars_words.proofs.word.Word.is_plain.Goals as goal

pub returns-then-self-eq0 : goal.returns-then-self-eq0
returns-then-self-eq0 c =
    ap (λ (t : Bool). t && (bit_and (c.self.inside.bits / 2 ^ 33) 3 == 0)) (sym (eq-eqb _ _ c.if-self-eq0.true)) ∙ are_plain-shifted c.args.self c.self.inside.bits c.self.view_is

pub returns-else-self-eq0 : goal.returns-else-self-eq0
returns-else-self-eq0 c =
    let is_not = ne_eqb _ _ c.if-self-eq0.false in
    is_not ∙ ap (λ (t : Bool). t && (bit_and (c.self.inside.bits / 2 ^ 33) 3 == 0)) (sym is_not) ∙ are_plain-shifted c.args.self c.self.inside.bits c.self.view_is
