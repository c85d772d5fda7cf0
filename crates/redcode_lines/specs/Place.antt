-- The text of a line of a source, and a place in it.
use Rattle.std.specs.Prelude.{ℕ, zero, suc, ◌+◌, ◌-◌, ◌<◌, ◌≤◌, nat_eq, if◌then◌else◌, List, [], ◌∷◌, length, take, slice_index}
use Rattle.redcode_lines.specs.Source.{lines_of}

-- the line after count others, nothing if there is none
abbrev pub line_behind : ℕ → List (List ℕ) → List ℕ
line_behind count [] = []
line_behind zero (line ∷ lines) = line
line_behind (suc count) (line ∷ lines) = line_behind count lines

-- a line without the carriage return at its end
abbrev pub without_return : List ℕ → List ℕ
without_return line = if nat_eq (slice_index line (length line - 1)) 13 then take (length line - 1) line else line

-- the text of the line of this number, counted from 1: the piece between two line feeds; nothing if there is no such line
abbrev pub line_text : List ℕ → ℕ → List ℕ
line_text source zero = []
line_text source (suc before) = without_return (line_behind before (lines_of source))

-- a column of a text, counted from 1, and bytes from there on within the text: at least one if the text has any
abbrev pub IsPlaceIn : List ℕ → ℕ → ℕ → Type 0
IsPlaceIn text column width = (1 ≤ column) × (column + width ≤ length text + 1) × (0 < length text → 0 < width)
