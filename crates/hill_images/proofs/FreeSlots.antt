-- Slots that are free, and entries that stay.
use Rattle.std.proofs.Common.{◌≡◌, ◌≢◌, ◌⊎◌, true≢false, take, get_or, inl, inr, ℕ, zero, suc, ◌+◌, ◌<◌, ◌≤◌, ◌==◌, Bool, true, false, if◌then◌else◌, List, [], ◌∷◌, ◌++◌, length, Option}
use Rattle.{std.proofs.{Common.{refl, sym, ap, ◌∙◌, arith, eq-eqb, length-take}, lemmas.List.take_more, lemmas.Bool.{cases_eq, ne_eqb}}, koth_hill.specs.Step.is_entry}
use Rattle.{hill_bytes.specs.{declared.header.HeaderEntry.HeaderEntry, Layout.SlotIsFree}, hill_images.specs.Places.{has_slot, kept_entries}}

-- an if at two slots' numbers
slot_same : {X : Type 0} (a b : ℕ) (x y : X) → a ≡ b → (if a == b then x else y) ≡ x
slot_same a b x y same = ap (λ t. if t then x else y) (eq-eqb a b same)

slot_other : {X : Type 0} (a b : ℕ) (x y : X) → a ≢ b → (if a == b then x else y) ≡ y
slot_other a b x y other = ap (λ t. if t then x else y) (ne_eqb a b other)

pub slot_is_free : (slot : ℕ) (es : List HeaderEntry) → has_slot slot es ≡ false → SlotIsFree slot es
slot_is_free slot [] none = tt
slot_is_free slot (e ∷ es) none = elim (cases_eq e.slot slot) [
  | inl same ↦ absurd (true≢false (sym (slot_same e.slot slot true (has_slot slot es) same) ∙ none))
  | inr other ↦ (other, slot_is_free slot es (sym (slot_other e.slot slot true (has_slot slot es) other) ∙ none))
]

-- the entries without those of a slot
abbrev drop_slot : ℕ → List HeaderEntry → List HeaderEntry
drop_slot slot [] = []
drop_slot slot (e ∷ es) = if e.slot == slot then drop_slot slot es else e ∷ drop_slot slot es

drop_less : (slot : ℕ) (es : List HeaderEntry) → length (drop_slot slot es) ≤ length es
drop_less slot [] = omega arith
drop_less slot (e ∷ es) = elim (cases_eq e.slot slot) [
  | inl same ↦ rw (slot_same e.slot slot (drop_slot slot es) (e ∷ drop_slot slot es) same) (omega (arith, drop_less slot es))
  | inr other ↦ rw (slot_other e.slot slot (drop_slot slot es) (e ∷ drop_slot slot es) other) (omega (arith, drop_less slot es))
]

drop_used : (slot : ℕ) (es : List HeaderEntry) → has_slot slot es ≡ true → length (drop_slot slot es) + 1 ≤ length es
drop_used slot [] used = absurd (true≢false (sym used))
drop_used slot (e ∷ es) used = elim (cases_eq e.slot slot) [
  | inl same ↦ rw (slot_same e.slot slot (drop_slot slot es) (e ∷ drop_slot slot es) same) (omega (arith, drop_less slot es))
  | inr other ↦ rw (slot_other e.slot slot (drop_slot slot es) (e ∷ drop_slot slot es) other)
      (omega (arith, drop_used slot es (sym (slot_other e.slot slot true (has_slot slot es) other) ∙ used)))
]

drop_other : (slot k : ℕ) (es : List HeaderEntry) → k ≢ slot → has_slot k es ≡ true → has_slot k (drop_slot slot es) ≡ true
drop_other slot k [] apart used = used
drop_other slot k (e ∷ es) apart used = elim (cases_eq e.slot slot) [
  | inl same ↦
      let not_k : e.slot ≢ k = (λ is. apart (sym is ∙ same)) in
      rw (slot_same e.slot slot (drop_slot slot es) (e ∷ drop_slot slot es) same)
      (drop_other slot k es apart (sym (slot_other e.slot k true (has_slot k es) not_k) ∙ used))
  | inr other ↦ rw (slot_other e.slot slot (drop_slot slot es) (e ∷ drop_slot slot es) other) (elim (cases_eq e.slot k) [
    | inl is ↦ slot_same e.slot k true (has_slot k (drop_slot slot es)) is
    | inr is_not ↦ slot_other e.slot k true (has_slot k (drop_slot slot es)) is_not
        ∙ drop_other slot k es apart (sym (slot_other e.slot k true (has_slot k es) is_not) ∙ used)
  ])
]

-- there are at least as many entries as taken slots
taken_few : (n : ℕ) (es : List HeaderEntry) → ((k : ℕ) → k < n → has_slot k es ≡ true) → n ≤ length es
taken_few zero es taken = omega arith
taken_few (suc n) es taken =
    let fewer : n ≤ length (drop_slot n es) = taken_few n (drop_slot n es) (λ k. λ below. drop_other n k es (λ same. omega arith) (taken k (omega arith))) in
    let less : length (drop_slot n es) + 1 ≤ length es = drop_used n es (taken n (omega arith)) in
    omega arith

bool_cases : (b : Bool) → (b ≡ true) ⊎ (b ≡ false)
bool_cases true = inl refl
bool_cases false = inr refl

-- if there are as many entries as slots below one, and all of those are taken, that one is free
pub past_taken : (es : List HeaderEntry) → ((k : ℕ) → k < length es → has_slot k es ≡ true) → SlotIsFree (length es) es
past_taken es taken = elim (bool_cases (has_slot (length es) es)) [
  | inl used ↦
      let many : length es + 1 ≤ length es = taken_few (length es + 1) es (λ k. λ below. elim (cases_eq k (length es)) [
        | inl same ↦ rw same used
        | inr other ↦ taken k (omega arith)
      ]) in absurd (omega arith)
  | inr free ↦ slot_is_free (length es) es free
]

kept_choose : (falls : Bool) (e : HeaderEntry) (es fs : List HeaderEntry) → (if falls then es ++ fs else e ∷ (es ++ fs)) ≡ (if falls then es else e ∷ es) ++ fs
kept_choose true e es fs = refl
kept_choose false e es fs = refl

pub kept-append : (fallen : Option ℕ) (es fs : List HeaderEntry) → kept_entries fallen (es ++ fs) ≡ kept_entries fallen es ++ kept_entries fallen fs
kept-append fallen [] fs = refl
kept-append fallen (e ∷ es) fs =
    ap (λ (xs : List HeaderEntry). if is_entry e.entry fallen then xs else record { entry = e.entry; slot = e.slot; age = e.age + 1 } ∷ xs) (kept-append fallen es fs)
    ∙ kept_choose (is_entry e.entry fallen) (record { entry = e.entry; slot = e.slot; age = e.age + 1 }) (kept_entries fallen es) (kept_entries fallen fs)

-- one more was looked at
pub kept_more : (fallen : Option ℕ) (es : List HeaderEntry) (i : ℕ) (d : HeaderEntry) → i < length es → kept_entries fallen (take (i + 1) es) ≡ kept_entries fallen (take i es) ++ kept_entries fallen (get_or es i d ∷ [])
kept_more fallen es i d below = ap (kept_entries fallen) (take_more es i d below) ∙ kept-append fallen (take i es) (get_or es i d ∷ [])

few_choose : (falls : Bool) (e : HeaderEntry) (kept : List HeaderEntry) (n : ℕ) → length kept ≤ n → length (if falls then kept else e ∷ kept) ≤ suc n
few_choose true e kept n less = omega arith
few_choose false e kept n less = omega arith

-- no more stay than there were
pub kept_few : (fallen : Option ℕ) (es : List HeaderEntry) → length (kept_entries fallen es) ≤ length es
kept_few fallen [] = omega arith
kept_few fallen (e ∷ es) = few_choose (is_entry e.entry fallen) (record { entry = e.entry; slot = e.slot; age = e.age + 1 }) (kept_entries fallen es) (length es) (kept_few fallen es)

pub kept_few_of : (fallen : Option ℕ) (es : List HeaderEntry) (i : ℕ) → length (kept_entries fallen (take i es)) ≤ i
kept_few_of fallen es i = let few = kept_few fallen (take i es) in let taken = length-take i es in omega arith
