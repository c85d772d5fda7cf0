-- How a line is read: its labels, its word, and what is after them.
use Rattle.std.specs.{Prelude.{ℕ, Bool, true, false, not, ◌&&◌, ◌||◌, if◌then◌else◌, List, [], ◌∷◌, take, is_some, Option, Some, None, codes}, Str.bytes_eq}
use Rattle.redcode_text.specs.{declared.token.TokenKind.TokenKind, declared.vocabulary.Word.Word, Tokens.{Piece, pieces_of}, Vocabulary.word_of}
use Rattle.redcode_lines.specs.declared.reading.LineForm.{LineForm}

-- ---- tokens

abbrev pub is_name : TokenKind → Bool
is_name TokenKind.Name = true
is_name _ = false

abbrev pub is_name_token : Piece → Bool
is_name_token token = is_name token.kind

abbrev pub is_comment : TokenKind → Bool
is_comment TokenKind.Comment = true
is_comment _ = false

abbrev pub is_no_comment : Piece → Bool
is_no_comment token = not (is_comment token.kind)

abbrev pub is_bad_kind : TokenKind → Bool
is_bad_kind TokenKind.Bad = true
is_bad_kind _ = false

abbrev pub is_bad : Piece → Bool
is_bad token = is_bad_kind token.kind

abbrev pub has_text : List ℕ → Piece → Bool
has_text text token = bytes_eq token.text text

-- an & is among the tokens
abbrev pub has_and : List Piece → Bool
has_and [] = false
has_and (token ∷ tokens) = has_text (codes "&") token || has_and tokens

-- the reserved word that a token is
abbrev pub word_at : Piece → Option Word
word_at token = if is_name token.kind then word_of token.text else None

-- what may stand before a word: names that are none, & and :
abbrev pub is_front : Piece → Bool
is_front token = (is_name token.kind && not (is_some (word_of token.text))) || (has_text (codes "&") token || has_text (codes ":") token)

-- ---- the front of a list

-- the items at the front that pass the test
abbrev pub taken_while : {X : Type 0} → (X → Bool) → List X → List X
taken_while test [] = []
taken_while test (x ∷ xs) = if test x then x ∷ taken_while test xs else []

-- the items from the first that fails the test on
abbrev pub dropped_while : {X : Type 0} → (X → Bool) → List X → List X
dropped_while test [] = []
dropped_while test (x ∷ xs) = if test x then dropped_while test xs else x ∷ xs

-- the tokens of a line without the comment at its end
abbrev pub without_comment : List Piece → List Piece
without_comment tokens = taken_while is_no_comment tokens

abbrev pub statement_tokens : List ℕ → List Piece
statement_tokens line = without_comment (pieces_of line)

-- ---- the word of a line

abbrev pub first_word : List Piece → Option Word
first_word [] = None
first_word (token ∷ tokens) = word_at token

-- the word of a line: its first reserved word, if nothing but names, & and : stands before it
abbrev pub line_word : List Piece → Option Word
line_word tokens = first_word (dropped_while is_front tokens)

-- the tokens from the word on, all if there is no word
abbrev pub tokens_from_word : List Piece → List Piece
tokens_from_word tokens = if is_some (line_word tokens) then dropped_while is_front tokens else tokens

-- a line of the source that is not skipped, without its comment
pub record SourceLine : Type 0 where
  -- its number in the source, counted from 1
  pub number : ℕ
  pub form : LineForm
  -- the word of a statement
  pub word : Option Word
  -- the text after the word of a name or an author; empty in other lines
  pub title : List ℕ
  -- the tokens before the word of a statement; none if it has no word
  pub front : List Piece
  -- the other tokens of a statement, from its word on, of a ROF that word alone; the tokens after the word of an assertion
  pub tokens : List Piece

abbrev pub source_line : ℕ → LineForm → Option Word → List ℕ → List Piece → List Piece → SourceLine
source_line number form word title front tokens = record { number = number; form = form; word = word; title = title; front = front; tokens = tokens }

-- what is read of the tokens from the word on: of a ROF that word alone, since the text after it is ignored
abbrev pub tokens_read : Option Word → List Piece → List Piece
tokens_read (Some Word.Rof) tokens = take 1 tokens
tokens_read _ tokens = tokens

abbrev pub statement_by : ℕ → Option Word → List Piece → SourceLine
statement_by number None tokens = source_line number LineForm.Statement None [] [] tokens
statement_by number (Some word) tokens =
    source_line number LineForm.Statement (Some word) [] (taken_while is_front tokens) (tokens_read (Some word) (dropped_while is_front tokens))

-- a statement of these tokens
abbrev pub statement : ℕ → List Piece → SourceLine
statement number tokens = statement_by number (line_word tokens) tokens

-- ---- its labels

abbrev pub names_among : List Piece → List (List ℕ)
names_among [] = []
names_among (token ∷ tokens) = if is_name token.kind then token.text ∷ names_among tokens else names_among tokens

abbrev pub label_tokens : Option Word → List Piece → List Piece → List Piece
label_tokens None front tokens = taken_while is_name_token tokens
label_tokens (Some word) front tokens = front

-- the labels are the names before the word, or the names at the front of a line without one
abbrev pub labels_of : SourceLine → List (List ℕ)
labels_of line = names_among (label_tokens line.word line.front line.tokens)

abbrev pub tokens_behind : Option Word → List Piece → List Piece
tokens_behind None tokens = dropped_while is_name_token tokens
tokens_behind (Some word) tokens = tokens

-- what is after the labels: from the word on, or after the names at the front of a line without a word
abbrev pub behind_labels : SourceLine → List Piece
behind_labels line = tokens_behind line.word line.tokens
