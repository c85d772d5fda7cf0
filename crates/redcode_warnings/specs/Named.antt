-- The names that lines name, in operands, expressions and the bodies of EQU lines.
use Rattle.std.specs.{Prelude.{ℕ, Bool, List, [], ◌∷◌, ◌++◌}, List.list_any, Str.bytes_eq}
use Rattle.{redcode_text.specs.Tokens.Piece, redcode_lines.specs.{declared.reading.LineForm.LineForm, Line.{SourceLine, behind_labels, names_among}}}

abbrev pub tokens_by : LineForm → SourceLine → List Piece
tokens_by LineForm.Statement line = behind_labels line
tokens_by _ line = line.tokens

-- the names on a line but for its labels
abbrev pub names_in : SourceLine → List (List ℕ)
names_in line = names_among (tokens_by line.form line)

abbrev pub names_of : List SourceLine → List (List ℕ)
names_of [] = []
names_of (line ∷ lines) = names_in line ++ names_of lines

-- a name is among these
abbrev pub is_among : List (List ℕ) → List ℕ → Bool
is_among names name = list_any (bytes_eq name) names
