-- Lists that are cut after their first elements.
use lib.Seq.{take-append-add}
use Rattle.std.proofs.Common.{◌≡◌, ℕ, ◌+◌, ◌-◌, ◌<◌, ◌≤◌, ◌==◌, Result, is_ok, min, Bool, true, false, if◌then◌else◌, zero, suc, List, [], ◌∷◌, ◌++◌, length, take, refl, sym, ap, ◌∙◌, arith}
use Rattle.{std.proofs.lemmas.List.{take-take, take_min}, koth_protocol.specs.Lines.{without_dot, without_return}}

-- the same up to n elements
abbrev pub Same : ℕ → List ℕ → List ℕ → Type 0
Same n xs ys = take n xs ≡ take n ys

same_below : (n : ℕ) (xs ys : List ℕ) → Same (suc n) xs ys → Same n xs ys
same_below n xs ys e = sym (take-take n (suc n) xs (omega arith)) ∙ ap (take n) e ∙ take-take n (suc n) ys (omega arith)

pub same_append : (n : ℕ) (a c b d : List ℕ) → Same n a c → Same n b d → Same n (a ++ b) (c ++ d)
same_append zero a c b d e f = refl
same_append (suc n) [] [] b d e f = f
same_append (suc n) [] (y ∷ ys) b d e f = absurd (cc)
same_append (suc n) (x ∷ xs) [] b d e f = absurd (cc)
same_append (suc n) (x ∷ xs) (y ∷ ys) b d e f =
    let heads : x ≡ y = cc in
    let tails : take n xs ≡ take n ys = cc in
    let rest = same_append n xs ys b d tails (same_below n b d f) in
    rw heads (ap (λ l. y ∷ l) rest)

-- a carriage return at the end is far after the cut
pub same_return : (n : ℕ) (xs behind : List ℕ) → n < length xs → Same n (without_return xs ++ behind) xs
same_return zero xs behind below = refl
same_return (suc n) [] behind below = absurd (omega (arith, below))
same_return (suc n) (b ∷ []) behind below = absurd (omega (arith, below))
same_return (suc n) (b ∷ c ∷ cs) behind below = ap (λ l. b ∷ l) (same_return n (c ∷ cs) behind (omega (arith, below)))

-- a line enters its source with the same first bytes wherever it is cut far after them
pub same_entry : (n : ℕ) (xs : List ℕ) → n + 1 < length xs → Same n (without_dot (without_return xs) ++ 10 ∷ []) (without_dot xs)
same_entry n [] below = absurd (omega (arith, below))
same_entry n (b ∷ []) below = absurd (omega (arith, below))
same_entry n (b ∷ c ∷ cs) below = at (b == 46)
  where
    at : (is : Bool) → Same n ((if is then without_return (c ∷ cs) else b ∷ without_return (c ∷ cs)) ++ 10 ∷ []) (if is then c ∷ cs else b ∷ c ∷ cs)
    at true = same_return n (c ∷ cs) (10 ∷ []) (omega (arith, below))
    at false = same_return n (b ∷ c ∷ cs) (10 ∷ []) (omega (arith, below))

pub same_dot : (n m : ℕ) (xs : List ℕ) → n < m → Same n (without_dot (take m xs)) (without_dot xs)
same_dot n zero xs below = absurd (omega (arith, below))
same_dot n (suc m) [] below = refl
same_dot n (suc m) (x ∷ xs) below = at (x == 46)
  where
    at : (is : Bool) → Same n (if is then take m xs else x ∷ take m xs) (if is then xs else x ∷ xs)
    at true = take-take n m xs (omega (arith, below))
    at false = take-take n (suc m) (x ∷ xs) (omega (arith, below))

-- bytes were put in after others, as many as there was room for
pub put_in : {T E : Type 0} (old more items : List ℕ) (count : ℕ) (r : Result T E) → length old ≤ 65540 → count ≡ min (65540 - length old) (length more)
    → is_ok r ≡ true → items ≡ (if is_ok r then old ++ take count more else old) → items ≡ take 65540 (old ++ more)
put_in old more items count r within is ok put =
    let all = take-append-add old more (65540 - length old) in
    let room : length old + (65540 - length old) ≡ 65540 = omega (arith, within) in
    put ∙ ap (λ b. if b then old ++ take count more else old) ok ∙ ap (λ n. old ++ take n more) is
    ∙ ap (λ l. old ++ l) (take_min (65540 - length old) more) ∙ sym all ∙ ap (λ n. take n (old ++ more)) room
