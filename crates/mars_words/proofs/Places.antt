-- The number of a kind's handler: its place in the list of kinds, and what it tells of the kind. For `place_of` of src/word.rt and the handlers.
use Rattle.std.proofs.Common.{◌≡◌, ◌≢◌, ℕ, zero, suc, ◌+◌, ◌-◌, ◌*◌, ◌/◌, ◌%◌, ◌<◌, ◌≤◌, Bool, true, ◌==◌, if◌then◌else◌, inl, inr, List, [], ◌∷◌, length, get_or, refl, sym, ap, subst, ◌∙◌, arith}
use Rattle.{std.specs.{Prelude.nat_lt, List.list_all}, std.proofs.lemmas.{Bool.{eq-eqb, ne_eqb, eqb-true, agree_below, agree_below_at, cases_lt, le-ltb, Decides.eqb_tells}, List.Folds.list_all_at}}
use Rattle.{war_types.specs.declared.instr.Instr.Instr, mars_words.specs.{Kinds.kinds, Words.{kind_code, same_kind, place_from, handler_at, handler_of}, declared.kinds.TheConstants.MULTIPLIER}}

-- what a list has at the place at which it has a number
at_place : (n place h : ℕ) (xs : List ℕ) → place_from n place xs ≡ h → 0 < h → (place ≤ h) × (get_or xs (h - place) 0 ≡ n)
unfolding place_from
at_place n place h [] is some = absurd (omega arith)
at_place n place h (x ∷ xs) is some =
    elim (eqb_tells x n) [
      | inl found ↦
          (let e : place ≡ h = sym (ap (λ (b : Bool). if b then place else place_from n (place + 1) xs) found.0) ∙ is in
          let none : h - place ≡ 0 = omega (arith, e) in
          (omega (arith, e), ap (λ (k : ℕ). get_or (x ∷ xs) k 0) none ∙ found.1))
      | inr other ↦
          (let rest = at_place n (place + 1) h xs (sym (ap (λ (b : Bool). if b then place else place_from n (place + 1) xs) other.0) ∙ is) some in
          let next : h - place ≡ suc (h - (place + 1)) = omega (arith, rest.0) in
          (omega (arith, rest.0), ap (λ (k : ℕ). get_or (x ∷ xs) k 0) next ∙ rest.1))
    ]

-- the place at which it has a number first, and what it tells if it hasn't the number
pub place_from-found : (n place k : ℕ) (xs : List ℕ) → k < length xs → get_or xs k 0 ≡ n → ((j : ℕ) → j < k → get_or xs j 0 ≢ n) → place_from n place xs ≡ place + k
unfolding place_from
place_from-found n place k [] inside is before = absurd (omega (arith, inside))
place_from-found n place zero (x ∷ xs) inside is before = ap (λ (b : Bool). if b then place else place_from n (place + 1) xs) (eq-eqb x n is) ∙ omega arith
place_from-found n place (suc k) (x ∷ xs) inside is before =
    ap (λ (b : Bool). if b then place else place_from n (place + 1) xs) (ne_eqb x n (before 0 (omega arith)))
    ∙ place_from-found n (place + 1) k xs (omega (arith, inside)) is (λ j below. before (suc j) (omega (arith, below))) ∙ omega arith

pub place_from-none : (n place : ℕ) (xs : List ℕ) → ((j : ℕ) → j < length xs → get_or xs j 0 ≢ n) → place_from n place xs ≡ 0
unfolding place_from
place_from-none n place [] none = refl
place_from-none n place (x ∷ xs) none =
    ap (λ (b : Bool). if b then place else place_from n (place + 1) xs) (ne_eqb x n (none 0 (omega arith)))
    ∙ place_from-none n (place + 1) xs (λ j below. none (suc j) (omega (arith, below)))

kinds-found : (kind k : ℕ) → k < 64 → get_or kinds k 0 ≡ kind → ((j : ℕ) → j < k → get_or kinds j 0 ≢ kind) → place_from kind 0 kinds ≡ k
unfolding kinds
kinds-found kind k inside is before = place_from-found kind 0 k kinds inside is before ∙ omega arith

kinds-none : (kind : ℕ) → ((j : ℕ) → j < 64 → get_or kinds j 0 ≢ kind) → place_from kind 0 kinds ≡ 0
unfolding kinds
kinds-none kind none = place_from-none kind 0 kinds none

-- ---- a table of places

-- where a table has the place of a kind
abbrev pub slot : ℕ → ℕ
slot kind = kind * MULTIPLIER / 256 % 256

-- it has each place at the slot of its kind
abbrev pub has_places : List ℕ → Bool
has_places places = agree_below (λ j. get_or places (slot (get_or kinds j 0)) 0 == j) (λ j. true) 64

place-first : (places : List ℕ) (kind place j : ℕ) → has_places places ≡ true → place ≡ get_or places (slot kind) 0 → j < 64 → get_or kinds j 0 ≡ kind → j ≡ place
place-first places kind place j has is below same =
    let test = agree_below_at (λ k. get_or places (slot (get_or kinds k 0)) 0 == k) (λ k. true) 64 j has below in
    sym (eqb-true _ _ test) ∙ ap (λ (k : ℕ). get_or places (slot k) 0) same ∙ sym is

pub place-within : (places : List ℕ) (kind place : ℕ) → list_all (λ p. nat_lt p 64) places ≡ true → length places ≡ 256 → place ≡ get_or places (slot kind) 0 → place < 64
place-within places kind place small long is =
    elim (cases_lt (get_or places (slot kind) 0) 64) [
      | inl below ↦ omega (arith, below, is)
      | inr past ↦
          (let wrong = list_all_at (λ p. nat_lt p 64) places (slot kind) 0 (omega (arith, long)) (le-ltb _ _ past) in
          cc)
    ]

pub place-found : (places : List ℕ) (kind place : ℕ) → has_places places ≡ true → place ≡ get_or places (slot kind) 0 → place < 64 → get_or kinds place 0 ≡ kind → place_from kind 0 kinds ≡ place
place-found places kind place has is below found =
    kinds-found kind place below found (λ j before same. omega (arith, place-first places kind place j has is (omega (arith, before, below)) same, before))

pub place-other : (places : List ℕ) (kind place : ℕ) → has_places places ≡ true → place ≡ get_or places (slot kind) 0 → get_or kinds place 0 ≢ kind → place_from kind 0 kinds ≡ 0
place-other places kind place has is other =
    kinds-none kind (λ j below same. other (ap (λ (k : ℕ). get_or kinds k 0) (sym (place-first places kind place j has is below same)) ∙ same))

-- a place is inside of the list
place-below : (n place : ℕ) (xs : List ℕ) → 0 < place + length xs → place_from n place xs < place + length xs
unfolding place_from
place-below n place [] some = omega (arith, some)
place-below n place (x ∷ xs) some =
    elim (eqb_tells x n) [
      | inl found ↦ subst (λ (b : Bool). (if b then place else place_from n (place + 1) xs) < place + length (x ∷ xs)) (sym found.0) (omega arith)
      | inr other ↦
          (let rest = place-below n (place + 1) xs (omega arith) in
          subst (λ (b : Bool). (if b then place else place_from n (place + 1) xs) < place + length (x ∷ xs)) (sym other.0) (omega (arith, rest)))
    ]

pub handler-below : (i : Instr) → handler_of i < 64
unfolding handler_at kinds
handler-below i = place-below (same_kind (kind_code i)) 0 kinds (omega arith)

-- the kind that has the handler of an instruction whose handler is known
pub kind_of_handler : (i : Instr) (n h : ℕ) → n ≡ handler_of i → n ≡ h → 0 < h → same_kind (kind_code i) ≡ get_or kinds h 0
unfolding handler_at
kind_of_handler i n h is at some =
    let same : h - 0 ≡ h = omega arith in
    sym (at_place (same_kind (kind_code i)) 0 h kinds (sym is ∙ at) some).1 ∙ ap (λ (k : ℕ). get_or kinds k 0) same
