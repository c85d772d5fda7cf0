use Rattle.std.proofs.{Common.{ℕ, ◌+◌, ◌==◌, take, drop, sym, ap, ◌∙◌, arith, rules, take_all}, lemmas.List.Sums.position_or_len_is, lemmas.List.{take_rest, drop_all}}
use Rattle.koth_http.proofs.target.cut.Goals as goal

pub returns-then-text-at : goal.returns-then-text-at
returns-then-text-at c =
    let text = c.args.text.now in
    let found = position_or_len_is (λ (b : ℕ). b == c.args.separator) text c.loop-at.at 0 (omega arith) c.loop-at.invariant (search rules) in
    record { before = ap (λ n. take n text) (sym found); after = take_rest text _ ∙ ap (λ n. drop (n + 1) text) (sym found) }

pub returns : goal.returns
returns c =
    let text = c.args.text.now in
    let none = position_or_len_is (λ (b : ℕ). b == c.args.separator) text c.loop-at.at 0 (omega arith) c.loop-at.invariant (λ below. absurd (omega (arith, below))) in
    record {
      before = sym (ap (λ n. take n text) none ∙ take_all c.loop-at.at text (omega arith));
      after = sym (ap (λ n. drop (n + 1) text) none ∙ drop_all (c.loop-at.at + 1) text (omega arith));
    }
