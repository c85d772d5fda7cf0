use Rattle.{redcode_text.specs.Tokens.pieces, std.proofs.Common.{◌≤◌, ◌∙◌, ℕ, drop, false, Option, MatchOption, subst, sym, arith, inl, inr}, std.specs.Bool.⊤, redcode_expand.proofs.PlacedNames.{ends-more, no-join, unjoined-more, unjoined-other}}
use Rattle.redcode_expand.proofs.open_blocks.unjoined_in.Goals.{then-is_behind_and+then-is_name, else-is_behind_and, else-is_behind_and-via-then-is_behind_and+else-is_name, else-is_behind_and-via-else-is_behind_and}
use Rattle.redcode_expand.proofs.open_blocks.unjoined_in.Goals as goal

pub returns-then-count-eq0-clause-none : goal.returns-then-count-eq0-clause-none
returns-then-count-eq0-clause-none g c = no-join false (pieces c.args.tokens.now)

pub loop-token-preserved : goal.loop-token-preserved
loop-token-preserved g c =
    let bs = drop c.args.from c.args.blocks.now in
    let ts = c.args.tokens.now in
    let at = c.loop-token.token-index in
    let kept = c.loop-token.invariant in
    let within = c.loop-token-test.true in
    let ends = c.has_text-is_behind_and.ensures ∙ sym (ends-more ts at _ within) in
    elim c.if-is_behind_and.branch [
      | then-is_behind_and+then-is_name w ↦
          let few = w.before-count.ensures.most in
          let placed = subst (λ (o : Option ℕ). MatchOption o ⊤ (λ p. w.before-count.result ≤ p)) w.place_from.ensures w.before-count.ensures.place in
          rw w.count-is (omega (arith, few, kept.0), unjoined-more bs w.before-count.result c.loop-token.count ts at _ within few kept.1 (λ ends is. placed), ends)
      | else-is_behind_and w ↦ rw w.count-is (
        kept.0,
        unjoined-other bs c.loop-token.count ts at _ within kept.1 (elim w.else-is_behind_and.branch [
          | else-is_behind_and-via-then-is_behind_and+else-is_name w' ↦ inr (sym w'.if-is_name.false ∙ w'.is_name.ensures)
          | else-is_behind_and-via-else-is_behind_and w' ↦ inl (sym w'.if-is_behind_and.false ∙ kept.2)
        ]),
        ends,
      )
    ]
