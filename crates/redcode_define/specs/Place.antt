-- Which lines of a source are read: those from its ;redcode line on, up to the first END in no block.
use Rattle.std.specs.Prelude.{ℕ, zero, suc, ◌+◌, ◌-◌, Bool, true, false, ◌==◌, nat_lt, if◌then◌else◌, List, [], ◌∷◌, Option, Some, None}
use Rattle.{redcode_text.specs.declared.vocabulary.Word.Word, redcode_lines.specs.Source.NumberedLine, redcode_define.specs.declared.place.Place.Place}

abbrev pub is_read : Place → Bool
is_read (Place.Read blocks) = true
is_read _ = false

-- how many blocks are open there
abbrev pub open_in : Place → ℕ
open_in (Place.Read blocks) = blocks
open_in _ = 0

-- the place of the first line of a source, of which the lines from this number on count
abbrev pub place_by : ℕ → Place
place_by number = if nat_lt 1 number then Place.Ignored (number - 2) else Place.Read 0

-- the same by the lines that count
abbrev pub first_place : List NumberedLine → Place
first_place [] = Place.Read 0
first_place (line ∷ lines) = place_by line.number

abbrev pub ended_by : ℕ → Place
ended_by blocks = if blocks == 0 then Place.Ended else Place.Read blocks

-- a FOR opens a block, a ROF ends one, and an END in no block is the last line that is read
abbrev pub behind_word : ℕ → Option Word → Place
behind_word blocks (Some Word.For) = Place.Read (blocks + 1)
behind_word blocks (Some Word.Rof) = Place.Read (blocks - 1)
behind_word blocks (Some Word.End) = ended_by blocks
behind_word blocks _ = Place.Read blocks

-- the place after a line with this word
abbrev pub behind : Place → Option Word → Place
behind (Place.Ignored lines) word = if lines == 0 then Place.Read 0 else Place.Ignored (lines - 1)
behind (Place.Read blocks) word = behind_word blocks word
behind Place.Ended word = Place.Ended
