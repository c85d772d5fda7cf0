-- A finding more that is told, for `told_all`.
use Rattle.std.proofs.{Common.{◌≡◌, List, [], ◌∷◌, ◌++◌, All}, lemmas.List.Elements.All-push}

pub all-more : {X : Type 0} (P : X → Type 0) (ys xs : List X) (x : X) → ys ≡ xs ++ x ∷ [] → All P xs → P x → All P ys
all-more P ys xs x e h p = rw e (All-push P xs x h p)
