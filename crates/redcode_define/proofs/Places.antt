-- The place of the first line of a source, and what is found in its lines.
use Rattle.std.proofs.Common.{◌≡◌, ℕ, ◌<◌, ◌==◌, ◌||◌, Bool, true, false, if◌then◌else◌, List, [], ◌∷◌, length, refl, arith}
use Rattle.{redcode_lines.specs.Source.{lines_of, numbered_from, onto_first}, redcode_define.specs.{Place.{first_place, place_by}, declared.place.Place.Place}}

first : (n b : ℕ) (feed : Bool) (lines : List (List ℕ)) → first_place (numbered_from n (if feed then [] ∷ lines else onto_first b lines)) ≡ place_by n
first n b true lines = refl
first n b false [] = refl
first n b false (line ∷ lines) = refl

-- for `first_place`
pub first_of : (n : ℕ) (rest : List ℕ) → 0 < length rest → first_place (numbered_from n (lines_of rest)) ≡ place_by n
first_of n [] some = absurd (omega arith)
first_of n (b ∷ bs) some = first n b (b == 10) (lines_of bs)

pub none_of : (n : ℕ) (rest : List ℕ) → length rest ≡ 0 → first_place (numbered_from n (lines_of rest)) ≡ Place.Read 0
none_of n [] none = refl
none_of n (b ∷ bs) none = absurd (omega (arith, none))

-- for `lines_defined`
pub or_of : (f one rest : Bool) → (f || (one || rest)) ≡ ((f || one) || rest)
or_of true one rest = refl
or_of false one rest = refl
