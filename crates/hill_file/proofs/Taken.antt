-- Zeros that are read one part after another.
use Rattle.std.proofs.{Common.{◌≡◌, ◌↔◌, ◌∙◌, ℕ, Bool, true, false, true≢false, List, [], ◌∷◌, ◌++◌, Option, Some, None, IfSome, subst, sym}, KnownBytes.Consumes-trans}
use Rattle.{std.proofs.lemmas.List.Elements.{All-append, All-cons, All-head, All-nil, All-tail}, std.specs.{Prelude.IsTrue, Io.KnownBytes.Consumes}, hill_file.specs.Zeros.{AreZeros, TakesZeros}}

pub more_zeros : (a b c : Option (List ℕ)) (bytes : List ℕ) → TakesZeros a b → Consumes b c bytes → AreZeros bytes → TakesZeros a c
more_zeros a b c bytes (zeros, are, taken) more are_more =
    (zeros ++ bytes, All-append (λ byte. byte ≡ 0) zeros bytes are are_more, Consumes-trans a b c zeros bytes taken more)

front : (xs ys : List ℕ) → AreZeros (xs ++ ys) → AreZeros xs
front [] ys all = All-nil (λ byte. byte ≡ 0)
front (x ∷ xs) ys all = All-cons (λ byte. byte ≡ 0) x xs (All-head (λ byte. byte ≡ 0) x (xs ++ ys) all)
    (front xs ys (All-tail (λ byte. byte ≡ 0) x (xs ++ ys) all))

back : (xs ys : List ℕ) → AreZeros (xs ++ ys) → AreZeros ys
back [] ys all = all
back (x ∷ xs) ys all = back xs ys (All-tail (λ byte. byte ≡ 0) x (xs ++ ys) all)

-- a byte that is none is one of all bytes
pub one_other : (a b c : Option (List ℕ)) (bytes : List ℕ) → TakesZeros a b → Consumes b c bytes → (AreZeros bytes → ⊥)
    → IfSome a (λ all. AreZeros all → ⊥)
one_other None b c bytes zeros more other = tt
one_other (Some all) None c bytes zeros more other = absurd zeros.2
one_other (Some all) (Some rest) None bytes zeros more other = absurd more
one_other (Some all) (Some rest) (Some last) bytes (zeros, are, taken) more other = λ every.
    other (front bytes last (subst AreZeros more (back zeros rest (subst AreZeros taken every))))

pub are_all : (found : Bool) (bytes : List ℕ) → (IsTrue found ↔ AreZeros bytes) → found ≡ true → AreZeros bytes
are_all found bytes told is = told.0 is

pub not_all : (found : Bool) (bytes : List ℕ) → (IsTrue found ↔ AreZeros bytes) → found ≡ false → AreZeros bytes → ⊥
not_all found bytes told is all = true≢false (sym (told.1 all) ∙ is)
