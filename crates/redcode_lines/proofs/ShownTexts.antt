-- A text as a terminal may have it, one character after another: for `append_shown`.
use Rattle.std.proofs.Common.{◌≡◌, ℕ, zero, suc, ◌-◌, ◌<◌, ◌≤◌, List, [], ◌∷◌, ◌++◌, length, drop, refl, sym, ap, ◌∙◌, arith, append_assoc}
use Rattle.redcode_lines.specs.Shown.{acted_width, shown_behind, shown_text}

-- what is skipped is not shown
skipped : (n : ℕ) (bs : List ℕ) → n ≤ length bs → shown_behind n bs ≡ shown_text (drop n bs)
skipped zero bs h = refl
skipped (suc n) [] h = absurd (omega arith)
skipped (suc n) (b ∷ bs) h = skipped n bs (omega arith)

-- a character that a terminal acts upon is shown as a question mark
pub shown-acted : (shown due rest : List ℕ) (w : ℕ) → acted_width rest ≡ w → 0 < w → w ≤ length rest → shown ++ shown_text rest ≡ due
    → (shown ++ 63 ∷ []) ++ shown_text (drop w rest) ≡ due
shown-acted shown due rest zero is some within so_far = absurd (omega arith)
shown-acted shown due [] (suc w) is some within so_far = absurd (omega arith)
shown-acted shown due (b ∷ bs) (suc w) is some within so_far =
    let less : suc w - 1 ≡ w = omega arith in
    let e : shown_text (b ∷ bs) ≡ 63 ∷ shown_text (drop w bs) = rw (is, less) (ap (λ l. 63 ∷ l) (skipped w bs (omega arith))) in
    append_assoc shown (63 ∷ []) (shown_text (drop w bs)) ∙ ap (λ l. shown ++ l) (sym e) ∙ so_far
