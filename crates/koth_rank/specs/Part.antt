-- The part of a field's matches, as `--part` writes it.
use Rattle.std.specs.{Prelude.{ℕ, Bool, true, false, List, [], ◌++◌, codes, decimal, length, map}, List.range_with_len}
use Rattle.{war_types.specs.declared.settings.RawSettings.RawSettings, koth_text.specs.declared.tally.Tally.Tally, koth_words.specs.Settings.given_as}
use Rattle.{koth_contests.specs.Lines.Entrant, koth_field.specs.Digest.{digest_of, label_of}}
use Rattle.koth_standings.specs.{PartText.{PartParts, RowParts, row_of}, Standings.at_place}
use Rattle.koth_rank.specs.Matches.{entrant_at}

abbrev pub both_text : Bool → List ℕ
both_text false = []
both_text true = codes " --both"

-- an option and its number
abbrev pub option_text : List ℕ → ℕ → List ℕ
option_text name number = name ++ decimal number

abbrev pub sizes_text : RawSettings → List ℕ
sizes_text s = option_text (codes "--core ") s.core ++ (option_text (codes " --cycles ") s.cycles ++ (option_text (codes " --processes ") s.processes
    ++ (option_text (codes " --length ") s.length ++ option_text (codes " --distance ") s.distance)))

abbrev pub bounds_text : RawSettings → List ℕ
bounds_text s = option_text (codes " --rounds ") s.rounds ++ (option_text (codes " --seed ") s.seed
    ++ (option_text (codes " --read-limit ") s.read_limit ++ option_text (codes " --write-limit ") s.write_limit))

-- what the matches go by, as options
abbrev pub options_text : RawSettings → Bool → List ℕ
options_text s both = sizes_text s ++ (bounds_text s ++ both_text both)

abbrev pub row_at : List Entrant → List Tally → ℕ → RowParts
row_at entrants counts place = row_of (at_place counts place) (label_of (entrant_at entrants place))

-- the rounds of the entrants at the first `many` places
abbrev pub rows_of : List Entrant → List Tally → ℕ → List RowParts
rows_of entrants counts many = map (row_at entrants counts) (range_with_len 0 many)

-- a part of the field: its head is of the settings and of the whole field, and it has the rounds of each entrant
abbrev pub field_part : RawSettings → Bool → ℕ → ℕ → List Entrant → List Tally → ℕ → PartParts
field_part s both number count entrants counts matches = record {
  head = record { number = number; count = count; settings = options_text (given_as s) both; field = digest_of s.core entrants };
  rows = rows_of entrants counts (length entrants);
  matches = matches;
}
