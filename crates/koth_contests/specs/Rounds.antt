-- The rounds of a match, each with what is told of it.
use Rattle.std.specs.{Prelude.{◌≡◌, ℕ, ◌+◌, ◌<◌, ◌≢◌, MatchOption, Option, List, [], map, ◌++◌, codes, decimal}, List.{flat_map, range_with_len}}
use Rattle.{war_types.specs.{Warrior.WarriorParts, declared.settings.RawSettings.RawSettings}, mars_core.specs.declared.round.{Outcome.Outcome, Side.Side}}
use Rattle.{koth_match.specs.{Match.{AreCounts, first_in, match_of, round_outcome}, Seeds.{position, seed_of_round}}, koth_replay.specs.Replay.turns_in}
use Rattle.{koth_text.specs.{Columns.padded, declared.columns.Alignment.Alignment}, koth_words.specs.declared.requests.View.View}
use Rattle.koth_json.specs.Contest.{round_line as round_object}
use Rattle.koth_contests.specs.declared.rounds.Played.{Played}

-- round r of a match, counted from 0: its number is counted from 1
abbrev pub round_of : RawSettings → WarriorParts → WarriorParts → ℕ → Played
round_of s older younger r = record {
  number = r + 1;
  seed = seed_of_round s r;
  position = position s (seed_of_round s r);
  first = first_in r;
  outcome = round_outcome s older younger r;
  turns = turns_in s older younger r;
}

-- the rounds before round n
abbrev pub rounds_before : RawSettings → WarriorParts → WarriorParts → ℕ → List Played
rounds_before s older younger n = map (round_of s older younger) (range_with_len 0 n)

-- a side of a match as the command line has them: A is the older warrior
abbrev pub side_name : Side → List ℕ
side_name Side.First = codes "A"
side_name Side.Second = codes "B"

-- who won
abbrev pub outcome_name : Outcome → List ℕ
outcome_name Outcome.First = codes "A"
outcome_name Outcome.Second = codes "B"
outcome_name Outcome.Tie = codes "tie"

-- who moved first, who won, and how many turns were made
abbrev pub ends_told : Played → List ℕ
ends_told p = side_name p.first ++ (codes " " ++ (outcome_name p.outcome ++ (codes " " ++ (decimal p.turns ++ codes "\n"))))

-- who moved first, who won, and how many turns were made, in columns
abbrev pub ends_columns : Played → List ℕ
ends_columns p = padded Alignment.Right 7 (side_name p.first)
    ++ (padded Alignment.Right 6 (outcome_name p.outcome) ++ (padded Alignment.Right 9 (decimal p.turns) ++ codes "\n"))

-- the line of a round for programs: its number, its seed, the position of the younger warrior, who moved first, who
-- won, and how many turns were made
abbrev pub round_told : Played → List ℕ
round_told p = decimal p.number ++ (codes " " ++ (decimal p.seed ++ (codes " " ++ (decimal p.position ++ (codes " " ++ ends_told p)))))

-- the line of a round for people, in columns
abbrev pub round_columns : Played → List ℕ
round_columns p = padded Alignment.Right 5 (decimal p.number) ++ (padded Alignment.Right 12 (decimal p.seed)
    ++ (padded Alignment.Right 10 (decimal p.position) ++ ends_columns p))

abbrev pub round_line : View → Played → List ℕ
round_line View.Plain p = round_told p
round_line View.Table p = round_columns p
round_line View.Json p = round_object p.number p.seed p.position (side_name p.first) (outcome_name p.outcome) p.turns

-- the heading of the rounds' lines: only people get one
abbrev pub rounds_heading : View → List ℕ
rounds_heading View.Plain = []
rounds_heading View.Table = codes "round        seed  position  first   won    turns\n"
rounds_heading View.Json = []

-- the text of a match, round by round: the outcomes are those that the match counts
pub record IsEach (s : RawSettings) (view : View) (older younger : WarriorParts) (text : List ℕ) : Type 0 where
  pub rounds : List Played
  pub played : rounds ≡ rounds_before s older younger s.rounds
  pub counts : AreCounts (map (λ (p : Played). p.outcome) rounds) (match_of s older younger)
  pub tells : text ≡ rounds_heading view ++ flat_map (round_line view) rounds

-- the first round of a match that ends like this, counted from 0; none if no round does
abbrev pub IsFirst : RawSettings → WarriorParts → WarriorParts → Outcome → Option ℕ → Type 0
IsFirst s older younger wanted found = MatchOption found ((r : ℕ) → r < s.rounds → round_outcome s older younger r ≢ wanted)
    (λ at. (at < s.rounds) × (round_outcome s older younger at ≡ wanted) × ((r : ℕ) → r < at → round_outcome s older younger r ≢ wanted))
