-- What is written of the contests of one warrior, mine, against others.
use Rattle.std.specs.Prelude.{ℕ, List, [], ◌++◌, codes, decimal}
use Rattle.war_types.specs.Warrior.{WarriorParts}
use Rattle.{koth_text.specs.{Columns.padded, declared.columns.Alignment.Alignment, declared.tally.Tally.Tally}, koth_words.specs.declared.requests.View.View}
use Rattle.koth_json.specs.Contest.{ContenderParts, match_line, sum_line as sum_object}
use Rattle.{koth_commands.specs.Name.shown_name, koth_text.specs.Tally.points_of}

-- a warrior, and what messages call its source
pub record Entrant : Type 0 where
  pub file : List ℕ
  pub warrior : WarriorParts

abbrev pub entrant : List ℕ → WarriorParts → Entrant
entrant file warrior = record { file = file; warrior = warrior }

-- the warrior and its source, as lines of JSON have them
abbrev pub contender : Entrant → ContenderParts
contender e = record { file = e.file; name = e.warrior.name; author = e.warrior.author }

-- for programs: the rounds that mine won, lost and tied, and its points
abbrev pub counts_told : Tally → List ℕ
counts_told t = decimal t.won ++ (codes " " ++ (decimal t.lost ++ (codes " " ++ (decimal t.tied ++ (codes " " ++ decimal (points_of t))))))

-- for people: these counts in columns
abbrev pub counts_columns : Tally → List ℕ
counts_columns t = padded Alignment.Right 6 (decimal t.won)
    ++ (padded Alignment.Right 6 (decimal t.lost) ++ (padded Alignment.Right 6 (decimal t.tied) ++ padded Alignment.Right 8 (decimal (points_of t))))

-- for programs: what the opponent's file is called, after the counts
abbrev pub opponent_told : List ℕ → List ℕ
opponent_told file = codes " " ++ shown_name file

-- for people: the name of the opponent's warrior, and what its file is called
abbrev pub opponent_columns : List ℕ → List ℕ → List ℕ
opponent_columns name file = codes "  " ++ (padded Alignment.Left 24 name ++ (codes "  " ++ shown_name file))

-- the line of an opponent
abbrev pub contest_line : View → ContenderParts → ContenderParts → Tally → List ℕ
contest_line View.Plain mine other t = counts_told t ++ (opponent_told other.file ++ codes "\n")
contest_line View.Table mine other t = counts_columns t ++ (opponent_columns other.name other.file ++ codes "\n")
contest_line View.Json mine other t = match_line mine other t (points_of t)

-- the line of all opponents together: mine fought `count` of them
abbrev pub sum_line : View → ContenderParts → ℕ → Tally → List ℕ
sum_line View.Plain mine count t = counts_told t ++ codes "\n"
sum_line View.Table mine count t = counts_columns t ++ codes "\n"
sum_line View.Json mine count t = sum_object mine count t (points_of t)

-- the heading of the opponents' lines: only people get one
abbrev pub heading : View → List ℕ
heading View.Plain = []
heading View.Table = codes "   won  lost  tied  points  warrior                   file\n"
heading View.Json = []
