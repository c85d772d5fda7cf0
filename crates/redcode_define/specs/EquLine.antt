-- The lines that define a name by an EQU, and their bodies.
use Rattle.std.specs.{Prelude.{ℕ, zero, suc, ◌+◌, Bool, true, false, not, ◌&&◌, ◌||◌, if◌then◌else◌, List, [], ◌∷◌, ◌++◌, take, length, Option, Some, None, codes}, Str.bytes_eq}
use Rattle.redcode_text.specs.{declared.vocabulary.Word.Word, Tokens.{Piece, ScannedPiece, pieces_of, tokens_of, without_place}}
use Rattle.redcode_lines.specs.Line.{dropped_while, has_text, is_front, is_name_token, is_no_comment, line_word, taken_while, without_comment}

-- the word of a line of these tokens, as the assembler reads it
abbrev pub word_among : List Piece → Option Word
word_among tokens = line_word (without_comment tokens)

abbrev pub word_on : List ℕ → Option Word
word_on line = word_among (pieces_of line)

abbrev pub is_equ : Option Word → Bool
is_equ (Some Word.Equ) = true
is_equ _ = false

-- the name is the last among these tokens, and no & is before it; first whether an & is before the tokens, and whether the last
-- name before them is that
abbrev pub names_last : List ℕ → Bool → Bool → List Piece → Bool
names_last name joined found [] = found
names_last name joined found (token ∷ tokens) =
    names_last name (has_text (codes "&") token) (if is_name_token token then not joined && has_text name token else found) tokens

-- the line of these tokens defines this name by an EQU
abbrev pub is_equ_among : List ℕ → List Piece → Bool
is_equ_among name tokens = is_equ (word_among tokens) && names_last name false false (taken_while is_front (without_comment tokens))

abbrev pub is_equ_of : List ℕ → List ℕ → Bool
is_equ_of name line = is_equ_among name (pieces_of line)

-- ---- its body

-- how many bytes of a line are before the body: up to the end of its word
abbrev pub word_end : List ScannedPiece → ℕ
word_end [] = 0
word_end (token ∷ tokens) = if is_front (without_place token) then word_end tokens else token.at + length token.text

abbrev pub first_text : List Piece → List ℕ
first_text [] = []
first_text (token ∷ tokens) = token.text

-- the comment at the end of a line, nothing if there is none
abbrev pub comment_on : List ℕ → List ℕ
comment_on line = first_text (dropped_while is_no_comment (pieces_of line))

-- the line with this value for its body: what is before the body, a blank, the value, and the comment
abbrev pub with_body : List ℕ → List ℕ → List ℕ
with_body value line = take (word_end (tokens_of line)) line ++ (32 ∷ (value ++ comment_on line))
