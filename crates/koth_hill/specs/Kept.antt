-- A hill with a result kept of each pair, beside the younger of the two.
use Rattle.std.specs.Prelude.{◌≡◌, ℕ, ◌+◌, ◌<◌, ◌==◌, if◌then◌else◌, List, [], ◌∷◌, ◌++◌, length, map, take, remove, position, slice_get, All, Option, None, Some}
use Rattle.{war_types.specs.{declared.settings.RawSettings.RawSettings, Warrior.WarriorParts}, koth_match.specs.{declared.bout.Bout.Bout, Match.{match_of, no_rounds, rounds_in}}}
use Rattle.koth_hill.specs.{declared.verdict.Verdict.Verdict, Hill.{Member, Hill, hill_of, with_age, Results, IsHill}, Table.{RowParts, table_by}}
use Rattle.koth_hill.specs.Step.{enlarged, is_entry, falling_by, stays_by, after_stay, verdict_by, matches_with}

-- a hill, and for each member by rising entry the results of its matches with those before it
pub record Kept : Type 0 where
  pub settings : RawSettings
  pub counter : ℕ
  pub members : List Member
  pub results : List (List Bout)

abbrev pub kept_of : RawSettings → ℕ → List Member → List (List Bout) → Kept
kept_of s counter members results = record { settings = s; counter = counter; members = members; results = results }

-- the hill, whatever is kept of it
abbrev pub hill_in : Kept → Hill
hill_in k = hill_of k.settings k.counter k.members

-- a member, and the results of its matches with those before it
pub record Entrant : Type 0 where
  pub member : Member
  pub bouts : List Bout

abbrev pub entrant_of : Member → List Bout → Entrant
entrant_of m bouts = record { member = m; bouts = bouts }

abbrev pub members_of : List Entrant → List Member
members_of es = map (λ e. e.member) es

abbrev pub rows_of : List Entrant → List (List Bout)
rows_of es = map (λ e. e.bouts) es

-- ---- what is true

-- the results of each of these with all before it: a row for each
abbrev pub rows_with : {X Y : Type 0} → (X → X → Y) → List X → List X → List (List Y)
rows_with f before [] = []
rows_with f before (x ∷ xs) = map (λ older. f older x) before ∷ rows_with f (before ++ x ∷ []) xs

-- the matches of each with those before it
abbrev pub fought_from : RawSettings → List Member → List Member → List (List Bout)
fought_from s before ms = rows_with (λ older younger. match_of s older.warrior younger.warrior) before ms

-- a hill with every pair fought again
abbrev pub fought : Hill → Kept
fought h = kept_of h.settings h.counter h.members (fought_from h.settings [] h.members)

-- each kept result is its pair's match
abbrev pub AreTrue : Kept → Type 0
AreTrue k = k.results ≡ fought_from k.settings [] k.members

-- ---- what is kept

-- at a place of a row, if the row is that long
abbrev pub result_in : Option (List Bout) → ℕ → Option Bout
result_in None i = None
result_in (Some row) i = slice_get row i

-- the result of the younger at one place with the older at another
abbrev pub result_at : List (List Bout) → Option ℕ → Option ℕ → Option Bout
result_at rows None younger = None
result_at rows (Some i) None = None
result_at rows (Some i) (Some j) = result_in (slice_get rows j) i

-- the place of an entry among these
abbrev pub place_of : List ℕ → ℕ → Option ℕ
place_of entries entry = position (λ e. e == entry) entries

-- the result of two entries
abbrev pub result_of : List ℕ → List (List Bout) → ℕ → ℕ → Option Bout
result_of entries rows older younger = result_at rows (place_of entries older) (place_of entries younger)

abbrev pub or_no_rounds : Option Bout → Bout
or_no_rounds None = no_rounds
or_no_rounds (Some b) = b

-- what is kept of two of these in place of their match
abbrev pub kept_results : List ℕ → List (List Bout) → Results
kept_results entries rows older_entry older younger_entry younger = or_no_rounds (result_of entries rows older_entry younger_entry)

abbrev pub entries_of : List Member → List ℕ
entries_of ms = map (λ m. m.entry) ms

-- the table by what is kept
abbrev pub table_kept : Kept → List RowParts
table_kept k = table_by (kept_results (entries_of k.members) k.results) k.members

-- ---- what is not true

-- what is kept of two entries is the result of their match, or there is none of either
abbrev pub IsTrueOf : Kept → ℕ → ℕ → Type 0
IsTrueOf k older younger = result_of (entries_of k.members) k.results older younger ≡ result_of (entries_of k.members) (fought_from k.settings [] k.members) older younger

-- the kept result of two entries is not their match
pub record IsUntrue (k : Kept) (older younger : ℕ) (kept fought : Bout) : Type 0 where
  pub kept_is : result_of (entries_of k.members) k.results older younger ≡ Some kept
  pub fought_is : result_of (entries_of k.members) (fought_from k.settings [] k.members) older younger ≡ Some fought
  pub differ : kept ≡ fought → ⊥

-- what is kept before that of these two is true: of each younger that entered before this one, and of this one with
-- each older before that one
pub record AreTrueBefore (k : Kept) (older younger : ℕ) : Type 0 where
  pub youngers : (o y : ℕ) → y < younger → IsTrueOf k o y
  pub olders : (o : ℕ) → o < older → IsTrueOf k o younger

-- up to this place these are the same, and here they aren't
pub record IsFirstDifference (some others : List Bout) (place : ℕ) : Type 0 where
  pub before : take place some ≡ take place others
  pub differ : slice_get some place ≡ slice_get others place → ⊥

-- ---- a step by what is kept

-- the matches of a challenger, which are fought, with all on the hill
abbrev pub fresh : Kept → WarriorParts → List Bout
fresh k w = matches_with k.settings k.members w

-- what is known of all on the hill and the challenger: what is kept, and the challenger's own matches
abbrev pub known : Kept → WarriorParts → Results
known k w = kept_results (entries_of (enlarged (hill_in k) w)) (k.results ++ fresh k w ∷ [])

-- what becomes of a challenger
abbrev pub verdict_kept : Kept → WarriorParts → Verdict
verdict_kept k w = verdict_by (known k w) (fresh k w) (hill_in k) w

-- the place of the one that falls
abbrev pub fallen_place : Option ℕ → List Member → Option ℕ
fallen_place fallen ms = position (λ m. is_entry m.entry fallen) ms

-- without what is at a place
abbrev pub without_place : {X : Type 0} → Option ℕ → List X → List X
without_place None xs = xs
without_place (Some i) xs = remove xs i

-- the rows of those that stay, each without the result with the one at this place
abbrev pub rows_left : Option ℕ → List (List Bout) → List (List Bout)
rows_left place rows = map (λ row. without_place place row) (without_place place rows)

-- one that stays, one older, and without the result with the one at this place
abbrev pub stayed : Option ℕ → Entrant → Entrant
stayed place e = entrant_of (with_age (e.member.age + 1) e.member) (without_place place e.bouts)

-- the challenger stays: the one that falls goes with its results
abbrev pub kept_stay : Kept → WarriorParts → Option ℕ → Kept
kept_stay k w fallen =
    let place = fallen_place fallen k.members in
    kept_of k.settings (k.counter + 1) (after_stay (hill_in k) w fallen).members (rows_left place k.results ++ without_place place (fresh k w) ∷ [])

-- the challenger falls: it is counted, and nothing else changes
abbrev pub kept_fall : Kept → Kept
kept_fall k = kept_of k.settings (k.counter + 1) k.members k.results

-- the hill after a challenger
abbrev pub step_kept : Kept → WarriorParts → Kept
step_kept k w = if stays_by (known k w) (hill_in k) w then kept_stay k w (falling_by (known k w) (hill_in k) w) else kept_fall k

-- the hill without members
abbrev pub new_kept : RawSettings → ℕ → Kept
new_kept s counter = kept_of s counter [] []

-- ---- what every hill keeps

-- each row is one longer than the one before it, the first of this length, and each result has all rounds
abbrev pub AreRows : ℕ → ℕ → List (List Bout) → Type 0
AreRows rounds n [] = Unit {0}
AreRows rounds n (row ∷ rows) = (length row ≡ n) × All (λ b. rounds_in b ≡ rounds) row × AreRows rounds (n + 1) rows

pub record IsKept (k : Kept) : Type 0 where
  pub hill : IsHill (hill_in k)
  -- a row for each member
  pub each : length k.results ≡ length k.members
  pub rows : AreRows k.settings.rounds 0 k.results
