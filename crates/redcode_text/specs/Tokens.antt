-- The tokens of a line: at each place that is no blank, the longest one.
use Rattle.std.specs.{Prelude.{◌≡◌, ℕ, zero, suc, ◌+◌, ◌-◌, Bool, true, false, not, ◌||◌, ◌&&◌, ◌==◌, if◌then◌else◌, List, [], ◌∷◌, ◌++◌, length, map, take}, List.{take_while, list_all}}
use Rattle.{war_types.specs.Title.is_blank, redcode_text.specs.{Bytes.{is_digit, is_letter, is_name_byte, is_symbol, are_symbol}, declared.token.Token.Token, declared.token.TokenKind.TokenKind}}

-- a token without its places in memory and in its line
pub record Piece : Type 0 where
  pub kind : TokenKind
  pub text : List ℕ

abbrev pub piece : TokenKind → List ℕ → Piece
piece kind text = record { kind = kind; text = text }

abbrev pub piece_of : Token → Piece
piece_of token = piece token.kind token.text.now

abbrev pub pieces : List Token → List Piece
pieces tokens = map piece_of tokens

-- a token of a line, with how many bytes of the line stand before it
pub record ScannedPiece : Type 0 where
  pub kind : TokenKind
  pub text : List ℕ
  pub at : ℕ

abbrev pub scanned_piece_of : Token → ScannedPiece
scanned_piece_of token = record { kind = token.kind; text = token.text.now; at = token.at }

abbrev pub scanned_pieces : List Token → List ScannedPiece
scanned_pieces tokens = map scanned_piece_of tokens

abbrev pub without_place : ScannedPiece → Piece
without_place token = piece token.kind token.text

-- ---- what the tokens of a line are

-- a text that is one symbol
abbrev pub is_symbol_text : ℕ → List ℕ → Bool
is_symbol_text b [] = is_symbol b
is_symbol_text b (c ∷ []) = are_symbol b c
is_symbol_text b (c ∷ d ∷ ds) = false

-- a text that is one byte, which is no blank and begins no token of another kind
abbrev pub is_bad_text : ℕ → List ℕ → Bool
is_bad_text b [] = not (is_blank b || (is_letter b || (is_digit b || (b == 59 || is_symbol b))))
is_bad_text b (c ∷ cs) = false

-- the texts of each kind
abbrev pub is_of_kind : TokenKind → List ℕ → Bool
is_of_kind kind [] = false
is_of_kind TokenKind.Name (b ∷ bs) = is_letter b && list_all is_name_byte bs
is_of_kind TokenKind.Number (b ∷ bs) = is_digit b && list_all is_digit bs
is_of_kind TokenKind.Symbol (b ∷ bs) = is_symbol_text b bs
is_of_kind TokenKind.Comment (b ∷ bs) = b == 59
is_of_kind TokenKind.Bad (b ∷ bs) = is_bad_text b bs

-- the piece is the first token of a line that begins at a place, and what is after it
pub record IsFirst (place : ℕ) (line : List ℕ) (piece : ScannedPiece) (behind : List ℕ) : Type 0 where
  pub blanks : List ℕ
  pub are_blank : list_all is_blank blanks ≡ true
  pub together : line ≡ blanks ++ (piece.text ++ behind)
  pub at : piece.at ≡ place + length blanks
  pub kind : is_of_kind piece.kind piece.text ≡ true
  pub longest : (kind : TokenKind) (byte : ℕ) (more rest : List ℕ) → behind ≡ byte ∷ (more ++ rest) → is_of_kind kind (piece.text ++ byte ∷ more) ≡ false

abbrev pub AreTokensFrom : ℕ → List ℕ → List ScannedPiece → Type 0
AreTokensFrom place line [] = list_all is_blank line ≡ true
AreTokensFrom place line (piece ∷ others) = (behind : List ℕ) × (IsFirst place line piece behind × AreTokensFrom (piece.at + length piece.text) behind others)

-- the pieces and the blanks between them are the line, each piece has its kind, and none could be longer at its place
abbrev pub IsTokensOf : List ℕ → List ScannedPiece → Type 0
IsTokensOf line tokens = AreTokensFrom 0 line tokens

-- ---- that list, from the front

abbrev pub begins_symbol : ℕ → List ℕ → Bool
begins_symbol b [] = false
begins_symbol b (c ∷ cs) = are_symbol b c

-- the kind of the longest token at b ∷ bs
abbrev pub kind_at : ℕ → List ℕ → TokenKind
kind_at b bs =
    if is_letter b then TokenKind.Name else (
    if is_digit b then TokenKind.Number else (
    if b == 59 then TokenKind.Comment else (
    if begins_symbol b bs || is_symbol b then TokenKind.Symbol else TokenKind.Bad)))

-- how many bytes of bs belong to the longest token at b ∷ bs
abbrev pub rest_of_token : ℕ → List ℕ → ℕ
rest_of_token b bs =
    if is_letter b then length (take_while is_name_byte bs) else (
    if is_digit b then length (take_while is_digit bs) else (
    if b == 59 then length bs else (
    if begins_symbol b bs then 1 else 0)))

-- the tokens at the end of a line of `bytes` bytes; the first `skip` bytes of that end belong to a token already
abbrev pub tokens_after : ℕ → ℕ → List ℕ → List ScannedPiece
tokens_after bytes skip [] = []
tokens_after bytes (suc skip) (b ∷ bs) = tokens_after bytes skip bs
tokens_after bytes zero (b ∷ bs) =
    if is_blank b then tokens_after bytes 0 bs
    else record { kind = kind_at b bs; text = b ∷ take (rest_of_token b bs) bs; at = bytes - length (b ∷ bs) } ∷ tokens_after bytes (rest_of_token b bs) bs

abbrev pub tokens_of : List ℕ → List ScannedPiece
tokens_of line = tokens_after (length line) 0 line

-- the same without their places
abbrev pub pieces_of : List ℕ → List Piece
pieces_of line = map without_place (tokens_of line)
