-- What is written in 16 rounds, and tokens among which no name of an EQU is.
use Rattle.std.proofs.{Common.{◌≡◌, ℕ, zero, suc, ◌<◌, ◌≤◌, false, List, [], ◌∷◌, length, Ok, Err, refl, sym, ap, ◌∙◌, arith}, lemmas.Bool.Decides.nat_tests, lemmas.List.length-map}
use Rattle.{war_types.specs.{declared.fault.AsmFault.AsmFault, declared.fault.AsmKind.AsmKind}, redcode_text.specs.Tokens.Piece, redcode_names.specs.Gives.fault_at}
use Rattle.{redcode_names.specs.{Equ.{EquList, round, has_equ, left_over, after_rounds, replaced}, Written.written}, redcode_names.proofs.Replacing.{rounds-left_over, written-left}}

pub replaced-left : (line : ℕ) (equs : EquList) (tokens : List Piece) → replaced line equs tokens ≡ left_over line equs (after_rounds 16 equs tokens)
unfolding replaced
replaced-left line equs tokens = rounds-left_over 16 line equs tokens

-- what is written in 16 rounds
pub all_replaced : (line : ℕ) (equs : EquList) (tokens : List Piece) → written 17 line equs [] tokens ≡ replaced line equs tokens
all_replaced line equs tokens = written-left 16 line equs [] tokens ∙ sym (replaced-left line equs tokens)

-- ---- no round changes anything

round-same : (equs : EquList) (xs : List Piece) → has_equ equs xs ≡ false → round equs xs ≡ xs
round-same equs [] none = refl
round-same equs (x ∷ xs) none = grind (arith, round-same equs xs)

after-same : (n : ℕ) (equs : EquList) (xs : List Piece) → has_equ equs xs ≡ false → after_rounds n equs xs ≡ xs
after-same zero equs xs none = refl
after-same (suc n) equs xs none = ap (after_rounds n equs) (round-same equs xs none) ∙ after-same n equs xs none

-- tokens that are none are as they were
pub tokens-same : (line : ℕ) (equs : EquList) (xs : List Piece) → has_equ equs xs ≡ false → length xs ≤ 512 → replaced line equs xs ≡ Ok xs
tokens-same line equs xs none short = rw (replaced-left line equs xs, after-same 16 equs xs none) (grind (arith, nat_tests))

-- or there are too many
pub tokens-over : (line : ℕ) (equs : EquList) (xs : List Piece) (fault : AsmFault) → has_equ equs xs ≡ false → 512 < length xs → fault ≡ fault_at line AsmKind.EquLimit
    → replaced line equs xs ≡ Err fault
tokens-over line equs xs fault none long is = rw (replaced-left line equs xs, after-same 16 equs xs none) (grind (arith, nat_tests))

pub ruleset kept = (tokens-same, tokens-over, length-map)
