-- A text as a list of its pieces.
use Rattle.std.specs.{Prelude.{ℕ, List, decimal}, List.flat_map}
use Rattle.koth_text.specs.{Columns.padded, Escape.escaped, declared.{columns.Alignment.Alignment, pieces.Piece.Piece}}

abbrev pub piece_text : Piece → List ℕ
piece_text (Piece.Text bytes) = bytes.now
piece_text (Piece.Escaped bytes) = escaped bytes.now
piece_text (Piece.Number value) = decimal value
piece_text (Piece.Right places value) = padded Alignment.Right places (decimal value)
piece_text (Piece.Padded side places bytes) = padded side places bytes.now

-- these pieces, one after the other
abbrev pub pieces_text : List Piece → List ℕ
pieces_text pieces = flat_map piece_text pieces
