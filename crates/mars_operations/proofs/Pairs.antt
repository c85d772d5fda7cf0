-- What a test answers of all pairs that a modifier names, by what it answers of each.
use Rattle.{std.proofs.{Common.{◌≡◌, ℕ, ◌==◌, Bool, true, false, ◌&&◌, List, [], ◌∷◌, sym, ap, ◌∙◌, eq-eqb, ne_eqb}, Math.Bool.and-true}, std.specs.List.list_all, mars_words.specs.Pairs.Pair}

pub all-one : (f : Pair → Bool) (p : Pair) (ps : List Pair) → p ∷ [] ≡ ps → f p ≡ list_all f ps
all-one f p ps names = sym (and-true (f p)) ∙ ap (list_all f) names

pub all-then : (f : Pair → Bool) (p q : Pair) (ps : List Pair) → p ∷ q ∷ [] ≡ ps → f p ≡ true → f q ≡ list_all f ps
all-then f p q ps names one = sym (and-true (f q)) ∙ ap (λ (t : Bool). t && (f q && true)) (sym one) ∙ ap (list_all f) names

pub all-else : (f : Pair → Bool) (p q : Pair) (ps : List Pair) → p ∷ q ∷ [] ≡ ps → f p ≡ false → false ≡ list_all f ps
all-else f p q ps names one = ap (λ (t : Bool). t && (f q && true)) (sym one) ∙ ap (list_all f) names

-- the test compares two numbers
pub equal-then : (f g : Pair → ℕ) (p q : Pair) (ps : List Pair) → p ∷ q ∷ [] ≡ ps → f p ≡ g p → (f q == g q) ≡ list_all (λ p. f p == g p) ps
equal-then f g p q ps names one = all-then (λ p. f p == g p) p q ps names (eq-eqb _ _ one)

pub equal-else : (f g : Pair → ℕ) (p q : Pair) (ps : List Pair) → p ∷ q ∷ [] ≡ ps → (f p ≡ g p → ⊥) → false ≡ list_all (λ p. f p == g p) ps
equal-else f g p q ps names one = all-else (λ p. f p == g p) p q ps names (ne_eqb _ _ one)
