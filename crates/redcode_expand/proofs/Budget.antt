-- The steps of a budget that are spent, line by line; and how many lines are written out.
use Rattle.std.proofs.{Common.{◌≡◌, ◌≤◌, ◌<◌, ℕ, suc, ◌+◌, ◌-◌, ◌*◌, ◌^◌, List, [], ◌∷◌, length, Result, Ok, Err, refl, ap, arith}, Math.Nat.mul-le-mul_left}
use Rattle.{std.specs.{Bool.⊤}, redcode_names.specs.Gives.{◌>>=◌}, redcode_expand.specs.Budget.{line_steps, most_lines, most_steps, steps_of}}
use Rattle.redcode_expand.specs.{Walk.{ExpandedLine, WalkState}, Rest.{OpenBlock, steps_left}, Expansion.{all_replaced, line_replaced}}
use Rattle.redcode_expand.proofs.Words.{AsmFault, EquList, SourceLine}

-- ---- the steps

one-more : (most fewer left : ℕ) → fewer + 1 ≤ left → steps_of most fewer + most ≤ steps_of most left
unfolding steps_of
one-more most fewer left less = omega (arith, mul-le-mul_left most less)

-- before the first line
pub steps-begin : (most steps : ℕ) (ls : List SourceLine) (bs : List OpenBlock) (st : WalkState) → bs ≡ [] → length ls ≤ 65536
    → steps + steps_of most (steps_left ls bs 0 st) ≤ steps + steps_of most most_lines
unfolding steps_of
steps-begin most steps ls bs st none few = rw none (omega (arith, mul-le-mul_left most (few-lines (4096 - st.counted) (length ls) (omega arith) few)))
  where
    few-lines : (left n : ℕ) → left ≤ 4096 → n ≤ 65536 → left * 131074 + (0 * 65537 + (n - 0)) ≤ most_lines
    few-lines left n h1 h2 = omega (arith, h1, h2)

-- after a line
pub steps-next : (most fewer left all old before now : ℕ) → fewer < left → old + steps_of most left ≤ before + all → before ≤ now + most → old + steps_of most fewer ≤ now + all
steps-next most fewer left all old before now less was spent = omega (arith, one-more most fewer left (omega (arith, less)), was, spent)

-- within a line
pub steps-within : (most left all old before now : ℕ) → 0 < left → old + steps_of most left ≤ before + all → before ≤ now + most → old ≤ now + all
steps-within most left all old before now some was spent = omega (arith, one-more most 0 left (omega (arith, some)), was, spent)

-- of a source
pub most-within : (old new most length : ℕ) → most ≡ line_steps length → old ≤ new + (steps_of most most_lines + 2 ^ 32) → old ≤ new + most_steps length
unfolding most_steps
most-within old new most length is few = omega (arith, few, ap (λ (m : ℕ). steps_of m most_lines) is)

-- ---- the lines

abbrev pub HasLength : ℕ → Result (List ExpandedLine) AsmFault → Type 0
HasLength n (Ok lines) = length lines ≡ n
HasLength n (Err fault) = ⊤

onto : (m : Result ExpandedLine AsmFault) (r : Result (List ExpandedLine) AsmFault) (n : ℕ) → HasLength n r → HasLength (suc n) (m >>= λ first. r >>= λ behind. Ok (first ∷ behind))
onto (Ok first) (Ok behind) n is = ap suc is
onto (Ok first) (Err fault) n is = tt
onto (Err fault) r n is = tt

-- no more lines are expanded than were written out
pub replaced-length : (equs : EquList) (ls : List ExpandedLine) → HasLength (length ls) (all_replaced equs ls)
replaced-length equs [] = refl
replaced-length equs (line ∷ ls) = onto (line_replaced equs line) (all_replaced equs ls) (length ls) (replaced-length equs ls)
