-- The operands of a line.
use Rattle.std.specs.Prelude.{if◌then◌else◌, List, [], ◌∷◌, drop, codes}
use Rattle.{redcode_text.specs.Tokens.Piece, redcode_lines.specs.{declared.line.LineKind.LineKind, Line.has_text}}

-- after an operation: the tokens after a dot and the modifier's name that follows it
abbrev pub behind_modifier : List Piece → List Piece
behind_modifier [] = []
behind_modifier (token ∷ tokens) = if has_text (codes ".") token then drop 1 tokens else token ∷ tokens

-- the tokens that are operands, or an expression
abbrev pub operands_of : LineKind → List Piece → List Piece
operands_of LineKind.Operation tokens = behind_modifier (drop 1 tokens)
operands_of LineKind.Org tokens = drop 1 tokens
operands_of LineKind.End tokens = drop 1 tokens
operands_of LineKind.Assert tokens = tokens
operands_of _ tokens = []
