use Rattle.{std.proofs.Common.{◌≡◌, ℕ, Bool, List, Option, sym, ap, ap₂, ◌∙◌}, std.specs.Option.is_some, war_types.specs.declared.instr.Instr.Instr}
use Rattle.{mars_words.specs.{Pairs.Pair, Code.{arithmetic_of, field_of, pair_of}}, mars_operations.specs.Effect.{value, with_value, calculated}, mars_operations.proofs.Pairs.{all-one, all-then, all-else}}
use Rattle.mars_operations.proofs.registers.calculated.Goals.{then-is_some, else-is_some}
use Rattle.mars_operations.proofs.registers.calculated.Goals as goal

pub returns-after-is_some-clause-all : goal.returns-after-is_some-clause-all
returns-after-is_some-clause-all c =
    let holds : Pair → Bool = λ p. is_some (value c.args.size (arithmetic_of c.args.arithmetic) c.args.a.instr c.args.b.instr p) in
    let p = pair_of c.in-Two.p in
    let q = pair_of c.in-Two.q in
    let first : c.is_some-in-Two.result ≡ holds p = c.is_some-in-Two.ensures ∙ ap is_some c.value-n-in-Two.ensures.value in
    elim c.if-is_some.branch [
      | then-is_some w ↦ w.result-is ∙ (w.is_some-then-is_some.ensures ∙ (ap is_some c.value-m.ensures.value ∙ all-then holds p q _ c.in-Two.ensures (sym first ∙ w.if-is_some.true)))
      | else-is_some w ↦ w.result-is ∙ (w.if-is_some.false ∙ all-else holds p q _ c.in-Two.ensures (sym first ∙ w.if-is_some.false))
    ]

pub returns-in-One-clause-all : goal.returns-in-One-clause-all
returns-in-One-clause-all c = c.is_some.ensures ∙ (ap is_some c.value-n.ensures.value ∙ all-one (λ (p : Pair). is_some (value c.args.size (arithmetic_of c.args.arithmetic) c.args.a.instr c.args.b.instr p)) (pair_of c.in-One.p) _ c.in-One.ensures)

pub returns-in-One-clause-target : goal.returns-in-One-clause-target
returns-in-One-clause-target c =
    c.with_value.ensures.value
    ∙ (ap (λ (n : Option ℕ). with_value (field_of c.in-One.p.target) n c.args.target.instr) c.value-n.ensures.value ∙ ap (λ (ps : List Pair). calculated c.args.size (arithmetic_of c.args.arithmetic) c.args.a.instr c.args.b.instr ps c.args.target.instr) c.in-One.ensures)

pub returns-after-is_some-clause-target : goal.returns-after-is_some-clause-target
returns-after-is_some-clause-target c =
    let half = c.with_value-half.ensures.value ∙ ap (λ (n : Option ℕ). with_value (field_of c.in-Two.p.target) n c.args.target.instr) c.value-n-in-Two.ensures.value in
    c.with_value-in-Two.ensures.value
    ∙ (ap₂ (λ (n : Option ℕ) (i : Instr). with_value (field_of c.in-Two.q.target) n i) c.value-m.ensures.value half ∙ ap (λ (ps : List Pair). calculated c.args.size (arithmetic_of c.args.arithmetic) c.args.a.instr c.args.b.instr ps c.args.target.instr) c.in-Two.ensures)
