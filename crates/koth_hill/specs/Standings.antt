-- Entries with their results, which are all that scores need of a hill.
use Rattle.std.specs.Prelude.{◌≡◌, ℕ, ◌+◌, ◌-◌, ◌<◌, ◌≤◌, nat_lt, if◌then◌else◌, List, [], ◌∷◌, length, get_or, map, All, Option, None, Some, true, false}
use Rattle.{koth_match.specs.{declared.bout.Bout.Bout, Match.rounds_in}, koth_hill.specs.{declared.score.Score.Score, declared.standings.Standing.Standing, declared.verdict.Verdict.Verdict}}
use Rattle.koth_hill.specs.{Scores.{rank_among, last_among}, Hill.{older_points, younger_points}, Step.is_entry, Kept.{Entrant, place_of, result_of, or_no_rounds}}

-- an entry, and its results with those before it
pub record StandingParts : Type 0 where
  pub entry : ℕ
  pub bouts : List Bout

abbrev pub standing_parts : Standing → StandingParts
standing_parts s = record { entry = s.entry; bouts = s.bouts.now }

abbrev pub standing_of : Entrant → StandingParts
standing_of e = record { entry = e.member.entry; bouts = e.bouts }

abbrev pub entries_in : List StandingParts → List ℕ
entries_in ss = map (λ s. s.entry) ss

abbrev pub rows_in : List StandingParts → List (List Bout)
rows_in ss = map (λ s. s.bouts) ss

abbrev pub entry_at : List StandingParts → ℕ → ℕ
entry_at ss place = get_or (entries_in ss) place 0

abbrev pub result_in_standings : List StandingParts → ℕ → ℕ → Option Bout
result_in_standings ss older younger = result_of (entries_in ss) (rows_in ss) older younger

abbrev pub kept_in : List StandingParts → ℕ → ℕ → Bout
kept_in ss older younger = or_no_rounds (result_in_standings ss older younger)

-- what one entry earns in its match against another
abbrev pub points_between : (ℕ → ℕ → Bout) → ℕ → ℕ → ℕ
points_between r e m = if nat_lt e m then older_points (r e m) else (if nat_lt m e then younger_points (r m e) else 0)

-- and against all of these
abbrev pub points_among : (ℕ → ℕ → Bout) → List ℕ → ℕ → ℕ
points_among r [] e = 0
points_among r (m ∷ ms) e = points_between r e m + points_among r ms e

-- the entries but for the one that is out
abbrev pub left : Option ℕ → List ℕ → List ℕ
left out [] = []
left out (e ∷ es) = if is_entry e out then left out es else e ∷ left out es

abbrev pub score_among : (ℕ → ℕ → Bout) → List ℕ → ℕ → Score
score_among r es e = record { entry = e; points = points_among r es e }

abbrev pub scores_among : (ℕ → ℕ → Bout) → List ℕ → List Score
scores_among r es = map (score_among r es) es

-- no result has over 1,000 rounds
abbrev pub HaveRounds : List StandingParts → Type 0
HaveRounds ss = All (λ row. All (λ b. rounds_in b ≤ 1000) row) (rows_in ss)

-- no entry stands at two places
abbrev pub AreApart : List ℕ → Type 0
AreApart entries = (i : ℕ) → i < length entries → place_of entries (get_or entries i 0) ≡ Some i

pub record AreStandings (ss : List StandingParts) : Type 0 where
  pub rounds : HaveRounds ss
  pub apart : AreApart (entries_in ss)

-- the last of them has this entry
pub record IsLast (ss : List Standing) (entry : ℕ) : Type 0 where
  pub some : 1 ≤ length ss
  pub is : entry_at (map standing_parts ss) (length ss - 1) ≡ entry

-- ---- verdicts

abbrev pub falling_among : List StandingParts → ℕ → Option ℕ
falling_among ss capacity =
    let scores = scores_among (kept_in ss) (left None (entries_in ss)) in
    if nat_lt capacity (length ss) then last_among scores scores else None

abbrev pub fallen_among : List StandingParts → StandingParts → Verdict
fallen_among ss own =
    record { entry = own.entry; stays = false; falls = Some own.entry; score = points_among (kept_in ss) (left None (entries_in ss)) own.entry; rank = 0; bouts = own.bouts }

abbrev pub placed_among : List StandingParts → StandingParts → Option ℕ → Verdict
placed_among ss own falls =
    let es = left falls (entries_in ss) in record {
      entry = own.entry;
      stays = true;
      falls = falls;
      score = points_among (kept_in ss) es own.entry;
      rank = rank_among (scores_among (kept_in ss) es) (score_among (kept_in ss) es own.entry);
      bouts = own.bouts;
    }

-- the verdict on the one that stands last of these, on a hill of this capacity
abbrev pub judged_among : List StandingParts → ℕ → StandingParts → Verdict
judged_among ss capacity own =
    if is_entry own.entry (falling_among ss capacity) then fallen_among ss own else placed_among ss own (falling_among ss capacity)
