-- The rows that are kept: each one longer than the one before it, and each result of all rounds.
use Rattle.std.proofs.Common.{◌≡◌, ℕ, ◌+◌, ◌<◌, ◌≤◌, Bool, true, false, List, [], ◌∷◌, ◌++◌, length, take, drop, map, remove, refl, sym, ap, subst, ◌∙◌, arith, suc, zero, Option, None, Some}
use Rattle.{std.proofs.Common.{All, slice_index_or}, std.specs.Prelude.if◌then◌else◌, std.proofs.{lemmas.List.{map-id, length-map, length_push}, lemmas.List.Edits.length-remove}}
use Rattle.std.proofs.{lemmas.List.Elements.{All-append, All-take, All-drop, All-map}, lemmas.List.Quantifiers.position-Some}
use Rattle.{war_types.specs.{declared.settings.RawSettings.RawSettings, Warrior.WarriorParts}, mars_core.specs.declared.round.Outcome.Outcome}
use Rattle.koth_match.specs.{declared.bout.Bout.Bout, Match.{rounds_in, counted, round_outcome, bout_before, match_of}}
use Rattle.koth_hill.specs.{Hill.{Member, Hill, RiseFrom, IsHill}, Step.{challenger, is_entry, without, one_older, falling_by, stays_by, matches_with}}
use Rattle.koth_hill.specs.Kept.{Kept, hill_in, fought_from, fought, fresh, known, fallen_place, without_place, rows_left, kept_stay, kept_fall, step_kept, AreRows, IsKept}
use Rattle.koth_hill.proofs.{Members.{removed-first, removed-none}, Truths.{remove-past, length-fought}}

-- these results have all rounds
abbrev pub HaveAll : ℕ → List Bout → Type 0
HaveAll rounds row = All (λ b. rounds_in b ≡ rounds) row

-- ---- one more

AreRows-behind : (rounds n : ℕ) (rows : List (List Bout)) (row : List Bout) → AreRows rounds n rows → length row ≡ n + length rows → HaveAll rounds row →
    AreRows rounds n (rows ++ row ∷ [])
AreRows-behind rounds n [] row are long each = (omega (arith, long), each, tt)
AreRows-behind rounds n (first ∷ rows) row are long each = (are.0, are.1, AreRows-behind rounds (n + 1) rows row are.2 (omega (arith, long)) each)

pub AreRows-push : (rounds : ℕ) (rows : List (List Bout)) (row : List Bout) → AreRows rounds 0 rows → length row ≡ length rows → HaveAll rounds row →
    AreRows rounds 0 (rows ++ row ∷ [])
AreRows-push rounds rows row are long each = AreRows-behind rounds 0 rows row are (omega (arith, long)) each

-- ---- one less

pub HaveAll-remove : (rounds : ℕ) (row : List Bout) (i : ℕ) → HaveAll rounds row → HaveAll rounds (remove row i)
HaveAll-remove rounds row i each =
    All-append (λ b. rounds_in b ≡ rounds) (take i row) (drop (suc i) row) (All-take (λ b. rounds_in b ≡ rounds) i row each) (All-drop (λ b. rounds_in b ≡ rounds) (suc i) row each)

-- rows after the one that goes are each one shorter
AreRows-shorter : (rounds n i : ℕ) (rows : List (List Bout)) → i ≤ n → AreRows rounds (n + 1) rows → AreRows rounds n (map (λ row. remove row i) rows)
AreRows-shorter rounds n i [] le are = tt
AreRows-shorter rounds n i (row ∷ rows) le are =
    let one : length (remove row i) + 1 ≡ length row = length-remove row i (omega (arith, are.0, le)) in
    (omega (arith, one, are.0), HaveAll-remove rounds row i are.1, AreRows-shorter rounds (n + 1) i rows (omega (arith, le)) are.2)

AreRows-without : (rounds n i : ℕ) (rows : List (List Bout)) → i < length rows → AreRows rounds n rows → AreRows rounds n (map (λ row. remove row (n + i)) (remove rows i))
AreRows-without rounds n i [] within are = absurd (omega (arith, within))
AreRows-without rounds n zero (row ∷ rows) within are = AreRows-shorter rounds n (n + 0) rows (omega arith) are.2
AreRows-without rounds n (suc i) (row ∷ rows) within are =
    let whole : remove row (n + suc i) ≡ row = remove-past row (n + suc i) (omega (arith, are.0)) in
    let place : n + 1 + i ≡ n + suc i = omega arith in
    let P : ℕ → Type 0 = λ m. AreRows rounds (n + 1) (map (λ row. remove row m) (remove rows i)) in
    (ap length whole ∙ are.0, HaveAll-remove rounds row (n + suc i) are.1, subst P place (AreRows-without rounds (n + 1) i rows (omega (arith, within)) are.2))

pub AreRows-left : (rounds i : ℕ) (rows : List (List Bout)) → i < length rows → AreRows rounds 0 rows → AreRows rounds 0 (rows_left (Some i) rows)
AreRows-left rounds i rows within are =
    let place : 0 + i ≡ i = omega arith in
    let P : ℕ → Type 0 = λ m. AreRows rounds 0 (map (λ row. remove row m) (remove rows i)) in
    subst P place (AreRows-without rounds 0 i rows within are)

pub AreRows-left_none : (rounds : ℕ) (rows : List (List Bout)) → AreRows rounds 0 rows → AreRows rounds 0 (rows_left None rows)
AreRows-left_none rounds rows are = let P : List (List Bout) → Type 0 = AreRows rounds 0 in subst P (sym (map-id rows)) are

-- ---- members that go

length-one_older : (ms : List Member) → length (one_older ms) ≡ length ms
length-one_older [] = refl
length-one_older (m ∷ ms) = ap suc (length-one_older ms)

-- as many members stay as rows are left
length-left : (before : ℕ) (ms : List Member) (rows : List (List Bout)) (fallen place : Option ℕ) → RiseFrom before ms → length rows ≡ length ms → fallen_place fallen ms ≡ place →
    length (rows_left place rows) ≡ length (without fallen ms)
length-left before ms rows fallen None rising each found = ap length (map-id rows) ∙ each ∙ ap length (removed-none fallen ms found)
length-left before [] rows fallen (Some i) rising each found = cc
length-left before (m ∷ ms) rows fallen (Some i) rising each found =
    let first = position-Some (λ x. is_entry x.entry fallen) (m ∷ ms) i m found in
    let in_rows : length (remove rows i) + 1 ≡ length rows = length-remove rows i (omega (arith, first.0, each)) in
    let in_members : length (remove (m ∷ ms) i) + 1 ≡ length (m ∷ ms) = length-remove (m ∷ ms) i first.0 in
    length-map (remove rows i) (λ row. remove row i) ∙ omega (arith, in_rows, in_members, each) ∙ ap length (removed-first fallen before (m ∷ ms) i m rising found)

rows-left : (rounds : ℕ) (ms : List Member) (rows : List (List Bout)) (fallen place : Option ℕ) → length rows ≡ length ms → fallen_place fallen ms ≡ place →
    AreRows rounds 0 rows → AreRows rounds 0 (rows_left place rows)
rows-left rounds ms rows fallen None each found are = AreRows-left_none rounds rows are
rows-left rounds [] rows fallen (Some i) each found are = cc
rows-left rounds (m ∷ ms) rows fallen (Some i) each found are =
    AreRows-left rounds i rows (omega (arith, (position-Some (λ x. is_entry x.entry fallen) (m ∷ ms) i m found).0, each)) are

-- a row as long as there are rows, without its place that goes
length-own : (ms : List Member) (rows : List (List Bout)) (row : List Bout) (fallen place : Option ℕ) → length rows ≡ length ms → length row ≡ length ms → fallen_place fallen ms ≡ place →
    length (without_place place row) ≡ length (rows_left place rows)
length-own ms rows row fallen None each long found = long ∙ sym each ∙ sym (ap length (map-id rows))
length-own [] rows row fallen (Some i) each long found = cc
length-own (m ∷ ms) rows row fallen (Some i) each long found =
    let within : i < length (m ∷ ms) = (position-Some (λ x. is_entry x.entry fallen) (m ∷ ms) i m found).0 in
    let in_rows : length (remove rows i) + 1 ≡ length rows = length-remove rows i (omega (arith, within, each)) in
    let in_row : length (remove row i) + 1 ≡ length row = length-remove row i (omega (arith, within, long)) in
    omega (arith, in_rows, in_row, each, long) ∙ sym (length-map (remove rows i) (λ r. remove r i))

HaveAll-left : (rounds : ℕ) (row : List Bout) (place : Option ℕ) → HaveAll rounds row → HaveAll rounds (without_place place row)
HaveAll-left rounds row None each = each
HaveAll-left rounds row (Some i) each = HaveAll-remove rounds row i each

-- ---- steps

-- if the challenger stays, there is a row for each member
pub each-stay : (k : Kept) (w : WarriorParts) (fallen : Option ℕ) → IsKept k → length (kept_stay k w fallen).results ≡ length (kept_stay k w fallen).members
each-stay k w fallen is =
    let place : Option ℕ = fallen_place fallen k.members in
    let left : length (rows_left place k.results) ≡ length (without fallen k.members) = length-left 0 k.members k.results fallen place is.hill.rising is.each refl in
    length_push (rows_left place k.results) (without_place place (fresh k w))
    ∙ omega (arith, left, length-one_older (without fallen k.members))
    ∙ sym (length_push (one_older (without fallen k.members)) (challenger (hill_in k) w))

-- and each is one longer than the one before it
pub rows-stay : (k : Kept) (w : WarriorParts) (fallen : Option ℕ) → IsKept k → All (λ b. rounds_in b ≡ k.settings.rounds) (fresh k w) →
    AreRows k.settings.rounds 0 (kept_stay k w fallen).results
rows-stay k w fallen is all =
    let place : Option ℕ = fallen_place fallen k.members in
    let long : length (fresh k w) ≡ length k.members = length-map k.members (λ (m : Member). match_of k.settings m.warrior w) in
    AreRows-push k.settings.rounds (rows_left place k.results) (without_place place (fresh k w))
    (rows-left k.settings.rounds k.members k.results fallen place is.each refl is.rows)
    (length-own k.members k.results (fresh k w) fallen place is.each long refl)
    (HaveAll-left k.settings.rounds (fresh k w) place all)

-- ---- all rounds are fought

counted-rounds : (o : Outcome) (b : Bout) → rounds_in (counted o b) ≡ suc (rounds_in b)
counted-rounds Outcome.First b = omega arith
counted-rounds Outcome.Second b = omega arith
counted-rounds Outcome.Tie b = omega arith

bout_before-rounds : (s : RawSettings) (older younger : WarriorParts) (n : ℕ) → rounds_in (bout_before s older younger n) ≡ n
bout_before-rounds s older younger zero = refl
bout_before-rounds s older younger (suc n) =
    counted-rounds (round_outcome s older younger n) (bout_before s older younger n) ∙ ap suc (bout_before-rounds s older younger n)

pub match-rounds : (s : RawSettings) (older younger : WarriorParts) → rounds_in (match_of s older younger) ≡ s.rounds
unfolding match_of
match-rounds s older younger = bout_before-rounds s older younger s.rounds

pub matches-rounds : (s : RawSettings) (ms : List Member) (w : WarriorParts) → All (λ b. rounds_in b ≡ s.rounds) (matches_with s ms w)
matches-rounds s ms w = All-map (λ b. rounds_in b ≡ s.rounds) (λ (m : Member). match_of s m.warrior w) ms (λ k d within. match-rounds s (slice_index_or ms k d).warrior w)

AreRows-fought_from : (s : RawSettings) (n : ℕ) (before ms : List Member) → length before ≡ n → AreRows s.rounds n (fought_from s before ms)
AreRows-fought_from s n before [] long = tt
AreRows-fought_from s n before (m ∷ ms) long = (
  length-map before (λ (x : Member). match_of s x.warrior m.warrior) ∙ long,
  matches-rounds s before m.warrior,
  AreRows-fought_from s (n + 1) (before ++ m ∷ []) ms (omega (arith, length_push before m, long)),
)

pub AreRows-fought : (s : RawSettings) (ms : List Member) → AreRows s.rounds 0 (fought_from s [] ms)
AreRows-fought s ms = AreRows-fought_from s 0 [] ms refl

-- ---- hills

pub IsKept-fought : (h : Hill) → IsHill h → IsKept (fought h)
IsKept-fought h is = record { hill = is; each = length-fought h.settings [] h.members; rows = AreRows-fought h.settings h.members }

pub IsKept-stay : (k : Kept) (w : WarriorParts) (fallen : Option ℕ) → IsKept k → IsHill (hill_in (kept_stay k w fallen)) → IsKept (kept_stay k w fallen)
IsKept-stay k w fallen is hill = record { hill = hill; each = each-stay k w fallen is; rows = rows-stay k w fallen is (matches-rounds k.settings k.members w) }

pub IsKept-fall : (k : Kept) → IsKept k → IsHill (hill_in (kept_fall k)) → IsKept (kept_fall k)
IsKept-fall k is hill = record { hill = hill; each = is.each; rows = is.rows }

either-kept : (b : Bool) (x y : Kept) → (IsHill (hill_in x) → IsKept x) → (IsHill (hill_in y) → IsKept y) → IsHill (hill_in (if b then x else y)) → IsKept (if b then x else y)
either-kept true x y stay fall hill = stay hill
either-kept false x y stay fall hill = fall hill

-- a step by what is kept leaves a row for each, if it leaves a hill
pub IsKept-step : (k : Kept) (w : WarriorParts) → IsKept k → IsHill (hill_in (step_kept k w)) → IsKept (step_kept k w)
IsKept-step k w is hill =
    either-kept (stays_by (known k w) (hill_in k) w) (kept_stay k w (falling_by (known k w) (hill_in k) w)) (kept_fall k)
    (IsKept-stay k w (falling_by (known k w) (hill_in k) w) is) (IsKept-fall k is) hill
