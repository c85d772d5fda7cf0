-- The events of the cells that a turn may change, for `push_loaded` and `push_changes`.
use Rattle.std.proofs.Common.{◌≡◌, ◌≢◌, ℕ, zero, suc, ◌+◌, ◌-◌, ◌<◌, ◌≤◌, true, ◌==◌, List, [], ◌∷◌, ◌++◌, length, map, get_or, set, take, drop, replicate, slice_get, slice_index, Option}
use Rattle.{std.proofs.Common.{Some, inl, inr, refl, sym, ap, ◌∙◌, append-nil, arith}, std.specs.List.{flat_map, range_with_len}}
use Rattle.{std.proofs.{lemmas.Bool.Decides.nat_tests, lemmas.List.{get_or_default, get_or-map, get_or-replicate, length-map, length-replicate}}, war_types.specs.declared.instr.Instr.Instr}
use Rattle.{war_types.specs.{Bytes.{op_code, modifier_code, mode_code}, declared.instr.Modifier.Modifier}, mars_core.specs.{Cells.{blank, cell}, Effect.are_equal, Touched.AreSameBut}}
use Rattle.koth_replay.specs.{declared.event.Event.Event, Turn.{cell_told, cell_events, core_events}, Code.{AreBelow, IsLeast}}
use Rattle.koth_replay.proofs.Steps.{one_number_more, one_place_more, put_behind}

-- ---- one cell more

found_at : (core : List Instr) (at : ℕ) (now : Instr) → slice_get core at ≡ Some now → get_or core at blank ≡ now
found_at [] at now e = cc
found_at (i ∷ core) zero now e = cc
found_at (i ∷ core) (suc at) now e = found_at core at now e

-- what the arena found in a cell
pub now-found : (core : List Instr) (at : ℕ) (found : Option Instr) (now : Instr) → found ≡ slice_get core at → found ≡ Some now → now ≡ cell core at
now-found core at found now found_is found_now = sym (found_at core at now (sym found_is ∙ found_now))

-- what is told of it is told too
pub change_told : (before core : List Instr) (at : ℕ) (held now : Instr) (start so_far all : List Event) → held ≡ cell before at → now ≡ cell core at
    → so_far ≡ start ++ core_events at before core → all ≡ so_far ++ cell_told held now at → all ≡ start ++ core_events (at + 1) before core
change_told before core at held now start so_far all held_is now_is events_are put =
    put_behind start (core_events at before core) (cell_told held now at) (core_events (at + 1) before core) so_far all events_are put
    (one_number_more (cell_events before core) at ∙ ap (λ l. core_events at before core ++ l) (λ t. cell_told (sym held_is t) (sym now_is t) at))

pub blank-there : (size at : ℕ) → at < size → blank ≡ cell (replicate size blank) at
blank-there size at below = sym (get_or-replicate size at blank blank below)

-- ---- cells that hold the same

same_number : (n : ℕ) → (n == n) ≡ true
same_number n = grind (arith, nat_tests)

pub same_instruction : (i : Instr) → are_equal Modifier.I i i ≡ true
same_instruction i =
    rw (same_number (op_code i.op), same_number (modifier_code i.modifier), same_number (mode_code i.a_mode), same_number (mode_code i.b_mode), same_number i.a, same_number i.b) refl

nothing_told : (i : Instr) (at : ℕ) → cell_told i i at ≡ []
nothing_told i at = rw (same_instruction i) refl

untold : (before core : List Instr) (at : ℕ) → cell core at ≡ cell before at → cell_events before core at ≡ []
untold before core at same = ap (λ i. cell_told (cell before at) i at) same ∙ nothing_told (cell before at) at

-- numbers at which there is nothing add nothing
skipped : (f : ℕ → List Event) (from n : ℕ) → ((k : ℕ) → from ≤ k → k < from + n → f k ≡ []) → flat_map f (range_with_len 0 (from + n)) ≡ flat_map f (range_with_len 0 from)
skipped f from zero none =
    let same : from + 0 ≡ from = omega arith in
    ap (λ n. flat_map f (range_with_len 0 n)) same
skipped f from (suc n) none =
    let next : from + suc n ≡ from + n + 1 = omega arith in
    ap (λ n. flat_map f (range_with_len 0 n)) next
    ∙ one_number_more f (from + n)
    ∙ ap (λ l. flat_map f (range_with_len 0 (from + n)) ++ l) (none (from + n) (omega arith) (omega arith))
    ∙ append-nil (flat_map f (range_with_len 0 (from + n)))
    ∙ skipped f from n (λ k past below. none k past (omega (arith, below)))

module _ (addresses : List ℕ) (before core : List Instr) (from : ℕ) (count : length addresses ≡ 8) (same : AreSameBut addresses before core) where
  untouched : (to : ℕ) → from ≤ to → ((k : ℕ) → from ≤ k → k < to → (i : ℕ) → i < 8 → slice_index addresses i ≢ k) → core_events to before core ≡ core_events from before core
  untouched to within others =
      let long : to ≡ from + (to - from) = omega arith in
      ap (λ n. core_events n before core) long
      ∙ skipped (cell_events before core) from (to - from)
      (λ k past below. untold before core k (same k (λ i d inside e.
      others k past (omega (arith, below, long)) i (omega (arith, inside, count)) (get_or_default addresses i 0 d inside ∙ e))))

  -- up to the least of the addresses
  pub none_before : (place : ℕ) → IsLeast 8 addresses from place → core_events (slice_index addresses place) before core ≡ core_events from before core
  none_before place is =
      untouched (slice_index addresses place) is.past
      (λ k past below i inside e. elim (is.least i inside) [ inl less ↦ absurd (omega (arith, less, past, e)) | inr above ↦ absurd (omega (arith, above, below, e)) ])

  -- and after all of them
  pub none_behind : (size : ℕ) → from ≤ size → AreBelow 8 addresses from → core_events size before core ≡ core_events from before core
  none_behind size within below = untouched size within (λ k past _ i inside e. absurd (omega (arith, below i inside, past, e)))

-- ---- what the cells at some addresses held

-- at one of them, and at all before a place
module _ (core : List Instr) (addresses : List ℕ) (count : length addresses ≡ 8) where
  pub held_there : (held : List Instr) (place : ℕ) (d : Instr) → place < 8 → held ≡ map (cell core) addresses → get_or held place d ≡ cell core (slice_index addresses place)
  held_there held place d below held_is = ap (λ l. get_or l place d) held_is ∙ get_or-map (cell core) addresses place 0 d (omega (arith, below, count))

  pub held_more : (held all : List Instr) (place at : ℕ) (now : Instr) → place < 8 → held ≡ take place (map (cell core) addresses) ++ drop place (replicate 8 blank) → at ≡ slice_index addresses place → now ≡ cell core at
      → all ≡ set held place now → all ≡ take (place + 1) (map (cell core) addresses) ++ drop (place + 1) (replicate 8 blank)
  held_more held all place at now below held_is at_is now_is put =
      let inside : place < length (replicate 8 blank) = omega (arith, below, length-replicate 8 blank) in
      let there : now ≡ get_or (map (cell core) addresses) place blank = now_is ∙ ap (cell core) at_is ∙ sym (held_there (map (cell core) addresses) place blank below refl) in
      put ∙ (λ t. set (held_is t) place (there t))
      ∙ one_place_more (replicate 8 blank) (map (cell core) addresses) place blank inside (length-map addresses (cell core) ∙ count ∙ sym (length-replicate 8 blank))
