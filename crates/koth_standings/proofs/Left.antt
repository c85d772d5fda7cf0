-- The pairs that are left once the next was taken.
use Rattle.std.proofs.Common.{◌≡◌, ℕ, zero, suc, ◌+◌, ◌-◌, ◌*◌, ◌<◌, ◌≤◌, [], ◌∷◌, ◌++◌, get_or, length, map, refl, sym, ap, subst, ◌∙◌, arith}
use Rattle.std.proofs.lemmas.{List.length-map, List.{Concat.length-flat_map, Elements.All-from_get_or, FromFn.length-range_with_len, Sums.sum_by-le}}
use Rattle.{std.specs.List.{flat_map, range_with_len, sum_by}, koth_standings.specs.Pairs.{pair, pairs, pairs_after, pairs_from, pairs_of}}

-- a range that isn't empty begins with its first number
range_begins : (from n : ℕ) → from < n → range_with_len from (n - from) ≡ from ∷ range_with_len (from + 1) (n - (from + 1))
range_begins from n below =
    let more : n - from ≡ suc (n - (from + 1)) = omega (arith, below) in
    ap (range_with_len from) more

range_none : (from n : ℕ) → n ≤ from → range_with_len from (n - from) ≡ []
range_none from n past =
    let none : n - from ≡ 0 = omega (arith, past) in
    ap (range_with_len from) none

-- the next pair of this older warrior
pub first_from : (n older from : ℕ) → from < n → pairs_from n older from ≡ pair older from ∷ pairs_from n older (from + 1)
first_from n older from below = ap (map (pair older)) (range_begins from n below)

-- this older warrior has no pairs left
pub none_from : (n older from : ℕ) → n ≤ from → pairs_from n older from ≡ []
none_from n older from past = ap (map (pair older)) (range_none from n past)

-- the pairs of the next older warrior, and of those after it
pub next_older : (n from : ℕ) → from < n → pairs_after n from ≡ pairs_of n from ++ pairs_after n (from + 1)
next_older n from below = ap (flat_map (pairs_of n)) (range_begins from n below)

-- there is no older warrior left
pub none_after : (n from : ℕ) → n ≤ from → pairs_after n from ≡ []
none_after n from past = ap (flat_map (pairs_of n)) (range_none from n past)

-- the pairs of this older warrior end, and those of the next begin
pub row_ends : (n older from : ℕ) → from + 1 ≡ n → older < from
    → pairs_from n older from ++ pairs_after n (older + 1) ≡ pair older from ∷ (pairs_from n (older + 1) (older + 1 + 1) ++ pairs_after n (older + 1 + 1))
row_ends n older from last apart =
    ap (λ l. l ++ pairs_after n (older + 1)) (first_from n older from (omega (arith, last)) ∙ ap (λ l. pair older from ∷ l) (none_from n older (from + 1) (omega (arith, last))))
    ∙ ap (λ l. pair older from ∷ l) (next_older n (older + 1) (omega (arith, last, apart)))

pub row_goes_on : (n older from : ℕ) → from < n
    → pairs_from n older from ++ pairs_after n (older + 1) ≡ pair older from ∷ (pairs_from n older (from + 1) ++ pairs_after n (older + 1))
row_goes_on n older from below = ap (λ l. l ++ pairs_after n (older + 1)) (first_from n older from below)

pub none_left : (n older from : ℕ) → n ≤ from → n ≤ older + 1 → pairs_from n older from ++ pairs_after n (older + 1) ≡ []
none_left n older from past over =
    ap (λ l. l ++ pairs_after n (older + 1)) (none_from n older from past) ∙ none_after n (older + 1) over

-- all pairs are those of the first place and of the places after it
pub all_left : (n : ℕ) → pairs_from n 0 1 ++ pairs_after n 1 ≡ pairs_after n 0
all_left zero = refl
all_left (suc n) = sym (next_older (suc n) 0 (omega arith))

-- no warrior is the older one of more pairs than the field has places
few_of : (n older m : ℕ) → n ≤ m → length (pairs_of n older) ≤ m
few_of n older m most =
    let many = length-map (range_with_len (older + 1) (n - (older + 1))) (pair older) ∙ length-range_with_len (older + 1) (n - (older + 1)) in
    omega (arith, many, most)

pub few_pairs : (n m : ℕ) → n ≤ m → length (pairs n) ≤ n * m
few_pairs n m most =
    let all = length-flat_map (pairs_of n) (range_with_len 0 (n - 0)) in
    let each = All-from_get_or (λ older. length (pairs_of n older) ≤ m) (range_with_len 0 (n - 0)) 0 (λ i within. few_of n (get_or (range_with_len 0 (n - 0)) i 0) m most) in
    let sums = sum_by-le (λ older. length (pairs_of n older)) m (range_with_len 0 (n - 0)) each in
    let many : length (range_with_len 0 (n - 0)) ≡ n = length-range_with_len 0 (n - 0) ∙ omega arith in
    subst (λ l. l ≤ n * m) (sym all) (subst (λ l. sum_by (λ older. length (pairs_of n older)) (range_with_len 0 (n - 0)) ≤ l * m) many sums)
