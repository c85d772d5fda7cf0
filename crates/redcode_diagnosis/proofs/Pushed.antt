-- A further element of a list, for `told_all`.
use Rattle.std.proofs.{Common.{◌≡◌, ℕ, ◌+◌, ◌<◌, List, [], ◌∷◌, ◌++◌, All, length, map, take, get_or, ap}, lemmas.List.{map-append, take_more}, lemmas.List.Elements.All-push}

pub mapped-more : {X Y : Type 0} (f : X → Y) (ys xs : List X) (x : X) (fs : List Y) (i : ℕ) (d : Y) → ys ≡ xs ++ x ∷ [] → map f xs ≡ take i fs → i < length fs → f x ≡ get_or fs i d → map f ys ≡ take (i + 1) fs
mapped-more f ys xs x fs i d e m lt at = rw (e, map-append f xs (x ∷ []), take_more fs i d lt, m) (ap (λ y. take i fs ++ y ∷ []) at)

pub all-more : {X : Type 0} (P : X → Type 0) (ys xs : List X) (x : X) → ys ≡ xs ++ x ∷ [] → All P xs → P x → All P ys
all-more P ys xs x e h p = rw e (All-push P xs x h p)
