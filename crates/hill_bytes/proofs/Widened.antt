-- A slot of the old format, and the one of the new that holds the same: for `OldSlot::widened`.
use Rattle.std.proofs.Common.{◌≡◌, slice_index_or, slice_set, ℕ, zero, suc, ◌+◌, ◌-◌, ◌≤◌, List, [], ◌∷◌, ◌++◌, length, take, drop, get_or, replicate, refl, sym, ap, ap₂, subst, ◌∙◌, arith}
use Rattle.std.proofs.lemmas.List.{append_assoc, append_cancel_left, drop_all, drop_at, drop-drop, length-drop, length-replicate, length-take, take_at, take-append-drop}
use Rattle.war_types.specs.{declared.instr.Instr.Instr, declared.settings.RawSettings.RawSettings, Warrior.WarriorParts}
use Rattle.hill_bytes.specs.{declared.wins.Wins.Wins, Layout.{FitRounds, HoldsSame, IsSlot, code_places, fields_bytes, new_layout, old_layout, results_from, results_in, slot_bytes}}
use Rattle.hill_bytes.proofs.SlotBytes.{length-code_places}

-- the sectors of the new format
abbrev pub wide : List ℕ → List ℕ → List (List ℕ)
wide first last = first ∷ (take 288 last ++ replicate 224 0) ∷ replicate 512 0 ∷ (replicate 288 0 ++ drop 288 last) ∷ []

-- places that no instruction needs are zero
zero_places : (n k : ℕ) (is : List Instr) → length is ≤ n → k ≡ n + 28 → code_places k is ≡ code_places n is ++ replicate 224 0
zero_places zero k [] few same = ap (λ j. code_places j []) same
zero_places zero k (i ∷ is) few same = absurd (omega (arith, few))
zero_places (suc n) zero is few same = absurd (omega (arith, same))
zero_places (suc n) (suc k) [] few same =
    ap (λ bytes. replicate 8 0 ++ bytes) (zero_places n k [] (omega arith) (omega (arith, same)))
    ∙ sym (append_assoc (replicate 8 0) (code_places n []) (replicate 224 0))
zero_places (suc n) (suc k) (i ∷ is) few same =
    ap (λ bytes. code_places 1 (i ∷ []) ++ bytes) (zero_places n k is (omega (arith, few)) (omega (arith, same)))
    ∙ sym (append_assoc (code_places 1 (i ∷ [])) (code_places n is) (replicate 224 0))

-- what stands in the first sector, and in front of the fields in the last
abbrev front : WarriorParts → List ℕ
front w = code_places 64 w.code

abbrev behind : WarriorParts → List ℕ
behind w = code_places 36 (drop 64 w.code)

long_behind : (w : WarriorParts) → length (behind w) ≡ 288
long_behind w = length-code_places 36 (drop 64 w.code)

-- the sectors of a short warrior in the new format
new_bytes : (w : WarriorParts) (results : List Wins) → length w.code ≤ 100
    → slot_bytes new_layout w results ≡ front w ∷ (behind w ++ replicate 224 0) ∷ replicate 512 0 ∷ (replicate 288 0 ++ fields_bytes w results) ∷ []
unfolding slot_bytes
new_bytes w results short =
    let left : length (drop 64 w.code) ≡ length w.code - 64 = length-drop 64 w.code in
    let second : code_places 64 (drop 64 w.code) ≡ behind w ++ replicate 224 0 = zero_places 36 64 (drop 64 w.code) (omega (arith, short, left)) refl in
    let third : code_places 64 (drop 64 (drop 64 w.code)) ≡ replicate 512 0 = ap (code_places 64) (drop_all 64 (drop 64 w.code) (omega (arith, short, left))) in
    let fourth : code_places 8 (drop 192 w.code) ++ (replicate 224 0 ++ fields_bytes w results) ≡ replicate 288 0 ++ fields_bytes w results =
    ap (λ is. code_places 8 is ++ (replicate 224 0 ++ fields_bytes w results)) (drop_all 192 w.code (omega (arith, short))) in
    λ i. front w ∷ second i ∷ third i ∷ fourth i ∷ []

old_bytes : (w : WarriorParts) (results : List Wins) → slot_bytes old_layout w results ≡ front w ∷ (behind w ++ fields_bytes w results) ∷ []
unfolding slot_bytes
old_bytes w results = refl

-- the results stand at the same places of the last sector
results_same : (first last : List ℕ) → results_in new_layout (wide first last) ≡ results_in old_layout (first ∷ last ∷ [])
unfolding results_in
results_same first last =
    ap (results_from 21)
    (sym (drop-drop 100 288 (replicate 288 0 ++ drop 288 last)) ∙ ap (drop 100) (drop_at (replicate 288 0) (drop 288 last) 288 (length-replicate {A = ℕ} 288 0)) ∙ drop-drop 100 288 last)

-- sectors that are a short warrior's in one format are its in the other
to_old : (first last : List ℕ) (w : WarriorParts) (results : List Wins) → length last ≡ 512 → length w.code ≤ 100 → wide first last ≡ slot_bytes new_layout w results → first ∷ last ∷ [] ≡ slot_bytes old_layout w results
to_old first last w results long short are =
    let same : wide first last ≡ front w ∷ (behind w ++ replicate 224 0) ∷ replicate 512 0 ∷ (replicate 288 0 ++ fields_bytes w results) ∷ [] = are ∙ new_bytes w results short in
    let code : first ≡ front w = ap (λ sectors. get_or sectors 0 []) same in
    let long_front : length (take 288 last) ≡ 288 = length-take 288 last ∙ omega (arith, long) in
    let further : take 288 last ≡ behind w =
    sym (take_at (take 288 last) (replicate 224 0) 288 long_front) ∙ ap (λ sectors. take 288 (get_or sectors 1 [])) same ∙ take_at (behind w) (replicate 224 0) 288 (long_behind w) in
    let fields : drop 288 last ≡ fields_bytes w results =
    append_cancel_left (replicate 288 0) (drop 288 last) (fields_bytes w results) (ap (λ sectors. get_or sectors 3 []) same) in
    let whole : last ≡ behind w ++ fields_bytes w results = sym (take-append-drop 288 last) ∙ ap₂ (λ (xs ys : List ℕ). xs ++ ys) further fields in
    ap₂ (λ (x y : List ℕ). x ∷ y ∷ []) code whole ∙ sym (old_bytes w results)

to_new : (first last : List ℕ) (w : WarriorParts) (results : List Wins) → length w.code ≤ 100 → first ∷ last ∷ [] ≡ slot_bytes old_layout w results → wide first last ≡ slot_bytes new_layout w results
to_new first last w results short are =
    let same : first ∷ last ∷ [] ≡ front w ∷ (behind w ++ fields_bytes w results) ∷ [] = are ∙ old_bytes w results in
    let whole : last ≡ behind w ++ fields_bytes w results = ap (λ sectors. get_or sectors 1 []) same in
    let further : take 288 last ≡ behind w = ap (take 288) whole ∙ take_at (behind w) (fields_bytes w results) 288 (long_behind w) in
    let fields : drop 288 last ≡ fields_bytes w results = ap (drop 288) whole ∙ drop_at (behind w) (fields_bytes w results) 288 (long_behind w) in
    (λ i. get_or (same i) 0 [] ∷ (further i ++ replicate 224 0) ∷ replicate 512 0 ∷ (replicate 288 0 ++ fields i) ∷ []) ∙ sym (new_bytes w results short)

slot_to_old : (first last : List ℕ) (s : RawSettings) (w : WarriorParts) → length last ≡ 512 → s.length ≤ 100 → IsSlot new_layout s (wide first last) w → IsSlot old_layout s (first ∷ last ∷ []) w
slot_to_old first last s w long room is =
    let same = results_same first last in record {
      fits = is.fits;
      titled = is.titled;
      rounds = subst (FitRounds s.rounds) same is.rounds;
      sectors_are = to_old first last w (results_in old_layout (first ∷ last ∷ [])) long (omega (arith, is.fits.length, room)) (is.sectors_are ∙ ap (slot_bytes new_layout w) same);
    }

slot_to_new : (first last : List ℕ) (s : RawSettings) (w : WarriorParts) → s.length ≤ 100 → IsSlot old_layout s (first ∷ last ∷ []) w → IsSlot new_layout s (wide first last) w
slot_to_new first last s w room is =
    let same = results_same first last in record {
      fits = is.fits;
      titled = is.titled;
      rounds = subst (FitRounds s.rounds) (sym same) is.rounds;
      sectors_are = to_new first last w (results_in new_layout (wide first last)) (omega (arith, is.fits.length, room)) (is.sectors_are ∙ ap (slot_bytes old_layout w) (sym same));
    }

-- the sectors hold the same
pub wide_same : (first last : List ℕ) → length last ≡ 512 → HoldsSame old_layout (wide first last) (first ∷ last ∷ [])
wide_same first last long = record {
  results = results_same first last;
  warriors = λ s. λ w. λ room. (slot_to_old first last s w long room, slot_to_new first last s w room);
}

-- two sectors, one after the other
two_sectors : (sectors : List (List ℕ)) → length sectors ≡ 2 → sectors ≡ slice_index_or sectors 0 [] ∷ slice_index_or sectors 1 [] ∷ []
two_sectors [] two = absurd (omega (arith, two))
two_sectors (a ∷ []) two = absurd (omega (arith, two))
two_sectors (a ∷ b ∷ []) two = refl
two_sectors (a ∷ b ∷ c ∷ xs) two = absurd (omega (arith, two))

-- what is made of them
pub widened : (sectors blank : List (List ℕ)) (code fields : List ℕ) → length sectors ≡ 2 → length (slice_index_or sectors 1 []) ≡ 512 → blank ≡ replicate 4 (replicate 512 0)
    → code ≡ take 288 (slice_index_or sectors 1 []) ++ replicate 224 0 → fields ≡ replicate 288 0 ++ drop 288 (slice_index_or sectors 1 [])
    → HoldsSame old_layout (slice_set (slice_set (slice_set blank 0 (slice_index_or sectors 0 [])) 1 code) 3 fields) sectors
widened sectors blank code fields two long is_blank is_code is_fields =
    let first = slice_index_or sectors 0 [] in
    let last = slice_index_or sectors 1 [] in
    let made : slice_set (slice_set (slice_set blank 0 first) 1 code) 3 fields ≡ wide first last = λ i. slice_set (slice_set (slice_set (is_blank i) 0 first) 1 (is_code i)) 3 (is_fields i) in
    subst (λ xs. HoldsSame old_layout xs sectors) (sym made) (subst (HoldsSame old_layout (wide first last)) (sym (two_sectors sectors two)) (wide_same first last long))
