-- The lines of `fight`.
use Rattle.std.specs.Prelude.{ℕ, List, [], ◌∷◌, ◌++◌, codes}
use Rattle.koth_text.specs.declared.tally.Tally.{Tally}
use Rattle.koth_json.specs.{declared.contest.Contender.Contender, declared.key.Key.Key, Objects.{Field, Value, object_line, type_field}}

-- a warrior, and what its source is called, wherever these lie in memory
pub record ContenderParts : Type 0 where
  pub file : List ℕ
  pub name : List ℕ
  pub author : List ℕ

abbrev pub contender_parts : Contender → ContenderParts
contender_parts c = record { file = c.file.now; name = c.name.now; author = c.author.now }

abbrev pub contender_fields : ContenderParts → List Field
contender_fields c = (Key.File, Value.text c.file) ∷ (Key.Name, Value.text c.name) ∷ (Key.Author, Value.text c.author) ∷ []

abbrev pub opponent_fields : ContenderParts → List Field
opponent_fields c =
    (Key.OpponentFile, Value.text c.file) ∷ (Key.OpponentName, Value.text c.name) ∷ (Key.OpponentAuthor, Value.text c.author) ∷ []

-- rounds from one side
abbrev pub tally_fields : Tally → List Field
tally_fields t = (Key.Won, Value.number t.won) ∷ (Key.Lost, Value.number t.lost) ∷ (Key.Tied, Value.number t.tied) ∷ []

-- a contest of one warrior with another, with the rounds and the points of the first
abbrev pub match_line : ContenderParts → ContenderParts → Tally → ℕ → List ℕ
match_line mine other tally points =
    object_line (type_field (codes "match"))
    (contender_fields mine ++ opponent_fields other ++ tally_fields tally ++ (Key.Points, Value.number points) ∷ [])

-- all contests of one warrior together, with how many opponents it met
abbrev pub sum_line : ContenderParts → ℕ → Tally → ℕ → List ℕ
sum_line mine opponents tally points =
    object_line (type_field (codes "sum"))
    (contender_fields mine ++ (Key.Opponents, Value.number opponents) ∷ tally_fields tally ++ (Key.Points, Value.number points) ∷ [])

-- a warrior of a field by its rank, with its rounds and points against all others
abbrev pub ranked_line : ℕ → ContenderParts → Tally → ℕ → List ℕ
ranked_line rank warrior tally points =
    object_line (type_field (codes "ranked"))
    ((Key.Rank, Value.number rank) ∷ contender_fields warrior ++ tally_fields tally ++ (Key.Points, Value.number points) ∷ [])

-- which round it is, counted from 1, with its seed and the position of the second warrior
abbrev pub draw_fields : ℕ → ℕ → ℕ → List Field
draw_fields number seed position =
    (Key.Round, Value.number number) ∷ (Key.Seed, Value.number seed) ∷ (Key.Position, Value.number position) ∷ []

-- how it went: who moved first, who won, and how many turns were made
abbrev pub course_fields : List ℕ → List ℕ → ℕ → List Field
course_fields first outcome turns = (Key.First, Value.text first) ∷ (Key.Outcome, Value.text outcome) ∷ (Key.Turns, Value.number turns) ∷ []

abbrev pub round_line : ℕ → ℕ → ℕ → List ℕ → List ℕ → ℕ → List ℕ
round_line number seed position first outcome turns =
    object_line (type_field (codes "round")) (draw_fields number seed position ++ course_fields first outcome turns)
