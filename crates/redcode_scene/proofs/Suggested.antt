-- The nearest name so far, and then that of further names, is that of all names.
use Rattle.std.proofs.{Common.{◌≡◌, ◌∙◌, ℕ, ◌<◌, ◌≤◌, Result, IfOk, Bool, true, false, nat_lt, if◌then◌else◌, List, [], ◌∷◌, ◌++◌, All, IfSome, MatchOption, Option, Some, None, refl, sym, ap, subst, arith, inl, inr, append_assoc, append-nil}, lemmas.{Bool.cases_Bool, List.Elements.{All-append, All-cons, All-nil, All-push, All-weaker}}}
use Rattle.redcode_scene.specs.{Nearest.{IsFarther, IsNearest, IsNoNearer, Suggests, near}, Search.{name_in, nearer, nearest_from}}

abbrev IsFar : List ℕ → List ℕ → Type 0
IsFar word name = near word name ≡ None

-- the nearest of these names, with its edits
abbrev pub IsFound : List ℕ → List (List ℕ) → Option (ℕ × List ℕ) → Type 0
IsFound word names None = All (λ name. near word name ≡ None) names
IsFound word names (Some best) = (is : IsNearest word names best.1) × (is.edits ≡ best.0)

farther-none : (word : List ℕ) (edits : ℕ) (name : List ℕ) → near word name ≡ None → IsFarther word edits name
farther-none word edits name is = rw is tt

nearer-none : (word : List ℕ) (edits : ℕ) (name : List ℕ) → near word name ≡ None → IsNoNearer word edits name
nearer-none word edits name is = rw is tt

less-of : (less more : ℕ) (m : Option ℕ) → less < more → IfSome m (λ n. more ≤ n) → IfSome m (λ n. less < n)
less-of less more None lt h = tt
less-of less more (Some n) lt h = omega (arith, lt, h)

less-still : (more : ℕ) (m : Option ℕ) → IfSome m (λ n. more < n) → IfSome m (λ n. more ≤ n)
less-still more None h = tt
less-still more (Some n) h = omega (arith, h)

-- what is no nearer than a name is farther than a nearer one
farther-still : (word : List ℕ) (less more : ℕ) → less < more → (name : List ℕ) → IsNoNearer word more name → IsFarther word less name
farther-still word less more lt name h = less-of less more (near word name) lt h

-- all that were passed are farther than a nearer name
all-farther : (word : List ℕ) (names : List (List ℕ)) (other : List ℕ) (less : ℕ) (is : IsNearest word names other) → less < is.edits → All (IsFarther word less) names
all-farther word names other less is lt =
    rw is.one (All-append (IsFarther word less) is.before (other ∷ is.behind)
    (All-weaker (IsFarther word is.edits) (IsFarther word less) (λ name h. farther-still word less is.edits lt name (less-still is.edits (near word name) h)) is.before is.farther)
    (All-cons (IsFarther word less) other is.behind (rw is.is_near lt)
    (All-weaker (IsNoNearer word is.edits) (IsFarther word less) (farther-still word less is.edits lt) is.behind is.no_nearer)))

-- a further name is the nearest
now-nearest : (word : List ℕ) (names : List (List ℕ)) (name : List ℕ) (edits : ℕ) → near word name ≡ Some edits → All (IsFarther word edits) names
    → IsFound word (names ++ name ∷ []) (Some (edits, name))
now-nearest word names name edits is all = (record { edits = edits; before = names; behind = []; one = refl; is_near = is; farther = all; no_nearer = All-nil (IsNoNearer word edits) }, refl)

-- the nearest name stays the nearest
still-nearest : (word : List ℕ) (names : List (List ℕ)) (best : ℕ × List ℕ) (name : List ℕ) (found : IsFound word names (Some best)) → IsNoNearer word best.0 name
    → IsFound word (names ++ name ∷ []) (Some best)
still-nearest word names best name found nearer-no = (
  record {
    edits = found.0.edits;
    before = found.0.before;
    behind = found.0.behind ++ name ∷ [];
    one = ap (λ xs. xs ++ name ∷ []) found.0.one ∙ append_assoc found.0.before (best.1 ∷ found.0.behind) (name ∷ []);
    is_near = found.0.is_near;
    farther = found.0.farther;
    no_nearer = All-push (IsNoNearer word found.0.edits) found.0.behind name found.0.no_nearer (subst (λ n. IsNoNearer word n name) (sym found.1) nearer-no);
  },
  found.1,
)

less-by : (less more : ℕ) → nat_lt less more ≡ true → less < more
less-by less more lt = grind (arith, lt)

least-by : (more less : ℕ) → nat_lt more less ≡ false → less ≤ more
least-by more less lt = grind (arith, lt)

either : (word : List ℕ) (names : List (List ℕ)) (best : ℕ × List ℕ) (name : List ℕ) (edits : ℕ) (b : Bool) → nat_lt edits best.0 ≡ b → near word name ≡ Some edits
    → IsFound word names (Some best) → IsFound word (names ++ name ∷ []) (if b then Some (edits, name) else Some best)
either word names best name edits true lt is found =
    now-nearest word names name edits is (all-farther word names best.1 edits found.0 (rw found.1 (less-by edits best.0 lt)))
either word names best name edits false lt is found = still-nearest word names best name found (rw is (least-by edits best.0 lt))

pushed : (word : List ℕ) (names : List (List ℕ)) (best : Option (ℕ × List ℕ)) (name : List ℕ) (m : Option ℕ) → near word name ≡ m → IsFound word names best
    → IsFound word (names ++ name ∷ []) (nearer best m name)
pushed word names None name None is found = All-push (IsFar word) names name found is
pushed word names None name (Some edits) is found =
    now-nearest word names name edits is (All-weaker (IsFar word) (IsFarther word edits) (farther-none word edits) names found)
pushed word names (Some best) name None is found = still-nearest word names best name found (nearer-none word best.0 name is)
pushed word names (Some best) name (Some edits) is found = either word names best name edits (nat_lt edits best.0) refl is found

-- those that were passed, and further ones
found-from : (word : List ℕ) (passed : List (List ℕ)) (best : Option (ℕ × List ℕ)) (names : List (List ℕ)) → IsFound word passed best
    → IsFound word (passed ++ names) (nearest_from word best names)
found-from word passed best [] found = rw (append-nil passed) found
found-from word passed best (name ∷ names) found =
    subst (λ xs. IsFound word xs (nearest_from word (nearer best (near word name) name) names)) (append_assoc passed (name ∷ []) names)
    (found-from word (passed ++ name ∷ []) (nearer best (near word name) name) names (pushed word passed best name (near word name) refl found))

suggested : (word : List ℕ) (names : List (List ℕ)) (best : Option (ℕ × List ℕ)) → IsFound word names best → Suggests word names (name_in best)
suggested word names None found = found
suggested word names (Some best) found = found.0

-- what is found of all names is what is suggested of them
nearest-suggests : (word : List ℕ) (names : List (List ℕ)) → Suggests word names (name_in (nearest_from word None names))
nearest-suggests word names = suggested word names (nearest_from word None names) (found-from word [] None names (All-nil (IsFar word)))

pub suggests-by : (word : List ℕ) (names : List (List ℕ)) (best : Option (ℕ × List ℕ)) (found : Option (List ℕ)) → best ≡ nearest_from word None names → found ≡ name_in best
    → Suggests word names found
suggests-by word names best found is by = rw (by, is) (nearest-suggests word names)

-- what is suggested of the same names for the same word
pub suggests-of : {X E : Type 0} (text : X → Option (List ℕ)) (word other : List ℕ) (names others : List (List ℕ)) (r : Result X E) → word ≡ other → names ≡ others
    → IfOk r (λ x. Suggests word names (text x)) → IfOk r (λ x. Suggests other others (text x))
suggests-of text word other names others r is are h =
    subst (λ w. IfOk r (λ x. Suggests w others (text x))) is (subst (λ ns. IfOk r (λ x. Suggests word ns (text x))) are h)
