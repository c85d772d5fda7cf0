-- The lines of a source, one after another: for `first_line`.
use Rattle.std.proofs.Common.{◌≡◌, ◌≢◌, ℕ, zero, suc, ◌<◌, List, [], ◌∷◌, length, get_or, take, drop, refl, arith, ne_eqb}
use Rattle.redcode_lines.specs.Source.{lines_of}

-- a line without a line feed is the only one
pub lines_of-last : (bs : List ℕ) → 0 < length bs → ((k : ℕ) → k < length bs → get_or bs k 0 ≢ 10) → lines_of bs ≡ bs ∷ []
lines_of-last [] some h = absurd (omega arith)
lines_of-last (b ∷ []) some h = rw (ne_eqb b 10 (h 0 (omega arith)))
lines_of-last (b ∷ c ∷ bs) some h = rw (ne_eqb b 10 (h 0 (omega arith)), lines_of-last (c ∷ bs) (omega arith) (λ k lt. h (suc k) (omega arith))) refl

-- a line feed ends a line
pub lines_of-cut : (bs : List ℕ) (i : ℕ) → i < length bs → ((k : ℕ) → k < i → get_or bs k 0 ≢ 10) → get_or bs i 0 ≡ 10
    → lines_of bs ≡ take i bs ∷ lines_of (drop (suc i) bs)
lines_of-cut [] i lt h at = absurd (omega arith)
lines_of-cut (b ∷ bs) zero lt h at = rw at refl
lines_of-cut (b ∷ bs) (suc i) lt h at =
    rw (ne_eqb b 10 (h 0 (omega arith)), lines_of-cut bs i (omega arith) (λ k k-lt. h (suc k) (omega arith)) at) refl
