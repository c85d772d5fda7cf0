-- A source with another body in the EQU lines of a name.
use Rattle.std.specs.Prelude.{ℕ, ◌+◌, Bool, true, false, ◌&&◌, ◌||◌, nat_lt, if◌then◌else◌, List, [], ◌∷◌, ◌++◌, length, Option, Some, None}
use Rattle.redcode_lines.specs.Source.{lines_of, live_lines}
use Rattle.redcode_define.specs.{Place.{behind, first_place, is_read}, EquLine.{is_equ_of, with_body, word_on}, declared.place.Place.Place}

-- a line is read there, and defines this name by an EQU
abbrev pub is_read_equ : List ℕ → Place → List ℕ → Bool
is_read_equ name place line = is_read place && is_equ_of name line

-- an EQU line of the name is among the lines that are read
abbrev pub has_equ_of : List ℕ → Place → List (List ℕ) → Bool
has_equ_of name place [] = false
has_equ_of name place (line ∷ lines) = is_read_equ name place line || has_equ_of name (behind place (word_on line)) lines

abbrev pub line_defined : List ℕ → List ℕ → Place → List ℕ → List ℕ
line_defined name value place line = if is_read_equ name place line then with_body value line else line

-- the lines with this value for the body of each EQU of the name that is read, each with a line feed at its end
abbrev pub lines_defined : List ℕ → List ℕ → Place → List (List ℕ) → List ℕ
lines_defined name value place [] = []
lines_defined name value place (line ∷ lines) =
    (line_defined name value place line ++ 10 ∷ []) ++ lines_defined name value (behind place (word_on line)) lines

abbrev pub all_defined : List ℕ → List ℕ → Place → List (List ℕ) → Option (List ℕ)
all_defined name value place lines = if has_equ_of name place lines then Some (lines_defined name value place lines) else None

-- the source with this value for the body of each EQU line of the name that is read; none if there is no such line. A source that is
-- too long to be read stays as it is
unfoldable pub defined : List ℕ → List ℕ → List ℕ → Option (List ℕ)
defined source name value =
    if nat_lt 65536 (length source) then Some source else all_defined name value (first_place (live_lines source)) (lines_of source)
