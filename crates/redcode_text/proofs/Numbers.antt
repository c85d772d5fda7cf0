-- What digits stand for, digit by digit.
use Rattle.std.proofs.{Common.{◌≡◌, ℕ, ◌+◌, ◌-◌, ◌*◌, ◌^◌, ◌<◌, ◌≤◌, List, [], ◌∷◌, length, get_or, drop, ltb, false, Err, arith}, lemmas.List.at_drop_more, lemmas.Bool.le-ltb}
use Rattle.{war_types.specs.declared.fault.ExprFault.ExprFault, redcode_text.specs.Value.{number_from, number_value}}

-- further digits make no number smaller
pub number_from-ge : (n : ℕ) (ds : List ℕ) → n ≤ number_from n ds
number_from-ge n [] = omega arith
number_from-ge n (d ∷ ds) = omega (arith, number_from-ge (10 * n + (d - 48)) ds)

-- one digit more
pub number_from-more : (n : ℕ) (ds : List ℕ) (i : ℕ) → i < length ds → number_from n (drop i ds) ≡ number_from (10 * n + (get_or ds i 0 - 48)) (drop (i + 1) ds)
number_from-more n ds i lt = at_drop_more (number_from n) ds i 0 lt

-- if the next digit leads past the limit, the whole number is past it
pub number_value-overflow : (n : ℕ) (ds : List ℕ) (i : ℕ) → i < length ds → number_from n (drop i ds) ≡ number_from 0 ds
    → 2 ^ 63 ≤ 10 * n + (get_or ds i 0 - 48) → number_value ds ≡ Err ExprFault.Overflow
number_value-overflow n ds i lt so_far past =
    let whole : 2 ^ 63 ≤ number_from 0 ds = omega (arith, number_from-more n ds i lt, number_from-ge (10 * n + (get_or ds i 0 - 48)) (drop (i + 1) ds)) in
    let test : ltb (number_from 0 ds) (2 ^ 63) ≡ false = le-ltb _ _ whole in
    rw test
