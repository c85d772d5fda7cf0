-- The results in a slot, as they are written and read.
use Rattle.std.proofs.Common.{◌≡◌, ℕ, zero, suc, ◌+◌, ◌*◌, ◌^◌, ◌<◌, ◌≤◌, List, [], ◌∷◌, ◌++◌, length, drop, get_or, replicate, refl, sym, ap, ap₂, ◌∙◌, subst, arith}
use Rattle.{std.proofs.{lemmas.List.{append_assoc, drop-drop}, lemmas.List.Elements.{All-head, All-tail}}, std.specs.Int.bytes_high_first, byteorder.specs.Endian.big_number}
use Rattle.{byteorder.specs.Numbers.big_number-reads_back, war_types.specs.{declared.settings.RawSettings.RawSettings, Settings.AreSettings, Warrior.{WarriorParts, Fits}}}
use Rattle.hill_bytes.specs.{declared.wins.Wins.Wins, Layout.{Layout, FitRounds, IsSlot, IsTitled, last_sector, result_places, results_from, results_in, slot_bytes, wins_bytes, wins_in}}
use Rattle.hill_bytes.proofs.SlotBytes.{results-at}

-- a result is read back
wins-back : (w : Wins) (rounds : ℕ) (rest : List ℕ) → rounds ≤ 1000 → w.older + w.younger ≤ rounds → wins_in (wins_bytes w ++ rest) ≡ w
wins-back w rounds rest most fits =
    let low_older : w.older < 256 ^ 2 = omega (arith, most, fits) in
    let low_younger : w.younger < 256 ^ 2 = omega (arith, most, fits) in
    let older : big_number 2 (wins_bytes w ++ rest) ≡ w.older =
    ap (big_number 2) (append_assoc (bytes_high_first 2 w.older) (bytes_high_first 2 w.younger) rest) ∙ big_number-reads_back 2 w.older (bytes_high_first 2 w.younger ++ rest) low_older in
    let younger : big_number 2 (drop 2 (wins_bytes w ++ rest)) ≡ w.younger =
    big_number-reads_back 2 w.younger rest low_younger in
    λ i. record { older = older i; younger = younger i }

-- and so are all
from-back : (results : List Wins) (rounds : ℕ) (rest : List ℕ) → rounds ≤ 1000 → FitRounds rounds results → results_from (length results) (result_places results ++ rest) ≡ results
from-back [] rounds rest most fits = refl
from-back (w ∷ ws) rounds rest most fits =
    ap₂ (λ (x : Wins) (xs : List Wins). x ∷ xs)
    (ap wins_in (append_assoc (wins_bytes w) (result_places ws) rest) ∙ wins-back w rounds (result_places ws ++ rest) most (All-head (λ x. x.older + x.younger ≤ rounds) w ws fits))
    (from-back ws rounds rest most (All-tail (λ x. x.older + x.younger ≤ rounds) w ws fits))

pub results-written : (layout : Layout) (w : WarriorParts) (results : List Wins) (rounds : ℕ) → rounds ≤ 1000 → length results ≡ 21 → FitRounds rounds results → results_in layout (slot_bytes layout w results) ≡ results
unfolding results_in
results-written layout w results rounds most long fits =
    ap (results_from 21) (results-at layout (slot_bytes layout w results) w results refl)
    ∙ ap (λ n. results_from n (result_places results ++ replicate 40 0)) (sym long)
    ∙ from-back results rounds (replicate 40 0) most fits

length-from : (n : ℕ) (bytes : List ℕ) → length (results_from n bytes) ≡ n
length-from zero bytes = refl
length-from (suc n) bytes = ap suc (length-from n (drop 4 bytes))

pub length-results : (layout : Layout) (sectors : List (List ℕ)) → length (results_in layout sectors) ≡ 21
unfolding results_in
length-results layout sectors = length-from 21 (drop 388 (last_sector layout sectors))

-- sectors that are written are a slot's
pub slot-written : (layout : Layout) (s : RawSettings) (w : WarriorParts) (results : List Wins) → AreSettings s → Fits s w → IsTitled w → length results ≡ 21 → FitRounds s.rounds results → IsSlot layout s (slot_bytes layout w results) w
slot-written layout s w results are fits titled long rounds =
    let same : results_in layout (slot_bytes layout w results) ≡ results = results-written layout w results s.rounds are.rounds_most long rounds in record {
      fits = fits;
      titled = titled;
      rounds = subst (FitRounds s.rounds) (sym same) rounds;
      sectors_are = ap (slot_bytes layout w) (sym same);
    }

-- the result at a place
from-at : (n i : ℕ) (bytes : List ℕ) (d : Wins) → i < n → get_or (results_from n bytes) i d ≡ wins_in (drop (4 * i) bytes)
from-at zero i bytes d below = absurd (omega (arith, below))
from-at (suc n) zero bytes d below = refl
from-at (suc n) (suc i) bytes d below =
    let past : 4 + 4 * i ≡ 4 * suc i = omega arith in
    from-at n i (drop 4 bytes) d (omega (arith, below)) ∙ ap wins_in (drop-drop (4 * i) 4 bytes ∙ ap (λ k. drop k bytes) past)

pub result-at : (layout : Layout) (sectors : List (List ℕ)) (i : ℕ) (d : Wins) → i < 21 → get_or (results_in layout sectors) i d ≡ wins_in (drop (388 + 4 * i) (last_sector layout sectors))
unfolding results_in
result-at layout sectors i d below =
    from-at 21 i (drop 388 (last_sector layout sectors)) d below ∙ ap wins_in (drop-drop (4 * i) 388 (last_sector layout sectors))
