-- A match of two warriors: in each of its rounds one side wins, or it is a tie (scores are counted as pMARS does; who
-- moves first is this project's own).
use Rattle.std.specs.{Prelude.{ℕ, zero, suc, ◌+◌, ◌*◌, ◌%◌, ◌≡◌, ◌≤◌, ◌==◌, Bool, true, false, if◌then◌else◌, List, map, count_by}, List.range_with_len}
use Rattle.{war_types.specs.{declared.settings.RawSettings.RawSettings, Warrior.WarriorParts}, mars_core.specs.{declared.round.Side.Side, declared.round.Outcome.Outcome}}
use Rattle.{mars_core.specs.Round.{opening, after_turns, outcome}, koth_match.specs.{declared.bout.Bout.Bout, declared.rounds.Match.Match, Seeds.{position, seed_of_round, IsSeed}}}

-- the older warrior moves first in every second round, the first of them included
abbrev pub first_in : ℕ → Side
first_in r = if r % 2 == 0 then Side.First else Side.Second

-- how a round ends with the older warrior at address 0, the younger at another one, and this side moving first
abbrev pub outcome_at : RawSettings → WarriorParts → WarriorParts → ℕ → Side → Outcome
outcome_at s older younger at first = outcome (after_turns (2 * s.cycles) (opening s older younger at first))

-- how round r ends
unfoldable pub round_outcome : RawSettings → WarriorParts → WarriorParts → ℕ → Outcome
round_outcome s older younger r = outcome_at s older younger (position s (seed_of_round s r)) (first_in r)

abbrev pub no_rounds : Bout
no_rounds = record { older_wins = 0; younger_wins = 0; ties = 0 }

-- how many rounds were counted
abbrev pub rounds_in : Bout → ℕ
rounds_in b = b.older_wins + b.younger_wins + b.ties

-- the counts with one round more
abbrev pub counted : Outcome → Bout → Bout
counted Outcome.First b = record { older_wins = b.older_wins + 1; younger_wins = b.younger_wins; ties = b.ties }
counted Outcome.Second b = record { older_wins = b.older_wins; younger_wins = b.younger_wins + 1; ties = b.ties }
counted Outcome.Tie b = record { older_wins = b.older_wins; younger_wins = b.younger_wins; ties = b.ties + 1 }

-- the counts over the rounds before round n
abbrev pub bout_before : RawSettings → WarriorParts → WarriorParts → ℕ → Bout
bout_before s older younger zero = no_rounds
bout_before s older younger (suc n) = counted (round_outcome s older younger n) (bout_before s older younger n)

-- the counts over all rounds of the settings
unfoldable pub match_of : RawSettings → WarriorParts → WarriorParts → Bout
match_of s older younger = bout_before s older younger s.rounds

-- how each round before round n ends, in order
abbrev pub outcomes_before : RawSettings → WarriorParts → WarriorParts → ℕ → List Outcome
outcomes_before s older younger n = map (round_outcome s older younger) (range_with_len 0 n)

-- how each round ends, in order
abbrev pub round_outcomes : RawSettings → WarriorParts → WarriorParts → List Outcome
round_outcomes s older younger = outcomes_before s older younger s.rounds

abbrev pub is_outcome : Outcome → Outcome → Bool
is_outcome Outcome.First Outcome.First = true
is_outcome Outcome.Second Outcome.Second = true
is_outcome Outcome.Tie Outcome.Tie = true
is_outcome o other = false

-- how many rounds end like this
abbrev pub times : Outcome → List Outcome → ℕ
times o ends = count_by (is_outcome o) ends

-- the counts are how many of these rounds the older warrior wins, the younger wins, and neither wins
pub record AreCounts (ends : List Outcome) (b : Bout) : Type 0 where
  pub older_wins : b.older_wins ≡ times Outcome.First ends
  pub younger_wins : b.younger_wins ≡ times Outcome.Second ends
  pub ties : b.ties ≡ times Outcome.Tie ends

-- a match of these two, some rounds of which were played: their counts, and the seed of the next one
pub record IsPlayed (s : RawSettings) (older younger : WarriorParts) (m : Match) : Type 0 where
  pub rounds : m.round ≤ s.rounds
  pub bout : m.bout ≡ bout_before s older younger m.round
  pub next : m.seed ≡ seed_of_round s m.round
  pub seed : IsSeed m.seed
