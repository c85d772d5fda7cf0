-- One element more of a list, in the loops that put turns and events, and the last part of a text.
use Rattle.{std.proofs.Common.{◌≡◌, ℕ, ◌+◌, ◌<◌, ◌≤◌, suc, List, Result, Ok, Err, OnOk, ◌++◌, length, take, get_or, ap, ◌∙◌, arith}, std.specs.Prelude.{is_ok, if◌then◌else◌}, std.specs.List.{enumerate_from, flat_map}, std.proofs.lemmas.List.take_all}
use Rattle.koth_text.proofs.Steps.{next_ranked, put_behind}

pub one_more : {X : Type 0} (f : ℕ × X → List ℕ) (xs : List X) (i : ℕ) (d : X) (start now new : List ℕ) → i < length xs
    → now ≡ start ++ flat_map f (enumerate_from 0 (take i xs)) → new ≡ now ++ f (i, get_or xs i d) → new ≡ start ++ flat_map f (enumerate_from 0 (take (i + 1) xs))
one_more f xs i d start now new below so_far put =
    let same : i + 1 ≡ suc i = omega arith in
    let none : 0 + i ≡ i = omega arith in
    put_behind start (flat_map f (enumerate_from 0 (take i xs))) (f (i, get_or xs i d)) (flat_map f (enumerate_from 0 (take (i + 1) xs))) now new so_far put
    (ap (λ n. flat_map f (enumerate_from 0 (take n xs))) same ∙ next_ranked f 0 xs i d below
    ∙ ap (λ n. flat_map f (enumerate_from 0 (take i xs)) ++ f (n, get_or xs i d)) none)

pub all_put : {X : Type 0} (f : ℕ × X → List ℕ) (xs : List X) (i : ℕ) (start now : List ℕ) → length xs ≤ i
    → now ≡ start ++ flat_map f (enumerate_from 0 (take i xs)) → now ≡ start ++ flat_map f (enumerate_from 0 xs)
all_put {X} f xs i start now end so_far = so_far ∙ ap (λ (ys : List X). start ++ flat_map f (enumerate_from 0 ys)) (take_all i xs end)

-- the last part was put, if there was room for it
pub last_part : {T E : Type 0} (result : Result T E) (start part new : List ℕ) → new ≡ (if is_ok result then start ++ part else start)
    → OnOk result (new ≡ start ++ part)
last_part (Ok value) start part new put = put
last_part (Err error) start part new put = tt
