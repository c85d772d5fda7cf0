-- The counters of blocks, and what a copy of a line is under them.
use Rattle.std.specs.{Prelude.{ℕ, Bool, true, false, ◌&&◌, nat_lt, if◌then◌else◌, List, [], ◌∷◌, ◌++◌, map, Option, Some, None, codes, decimal}, Str.bytes_eq}
use Rattle.redcode_text.specs.{Tokens.{Piece, piece}, declared.vocabulary.Word.Word, declared.token.TokenKind.TokenKind}
use Rattle.redcode_lines.specs.{declared.reading.LineForm.LineForm, Line.{SourceLine, is_name, has_text, taken_while, dropped_while}}

-- a name that stands for the number of a copy
pub record Counter : Type 0 where
  pub name : List ℕ
  pub number : ℕ

abbrev pub counter_of : List ℕ → ℕ → Counter
counter_of name number = record { name = name; number = number }

abbrev pub is_counter : Counter → Piece → Bool
is_counter c token = is_name token.kind && bytes_eq token.text c.name

-- the number in decimal digits, two at least
abbrev pub two_digits : ℕ → List ℕ
two_digits n = if nat_lt n 10 then codes "0" ++ decimal n else decimal n

abbrev pub number_token : ℕ → Piece
number_token n = piece TokenKind.Number (decimal n)

-- ---- names joined to the number by an &

abbrev pub is_join : Counter → Piece → Piece → Piece → Bool
is_join c token next after = is_name token.kind && (has_text (codes "&") next && is_counter c after)

abbrev pub joined_name : Counter → Piece → Piece
joined_name c token = piece TokenKind.Name (token.text ++ two_digits c.number)

-- a name that an & and the counter follow
abbrev pub joins : Counter → Piece → List Piece → Bool
joins c token [] = false
joins c token (next ∷ []) = false
joins c token (next ∷ after ∷ tokens) = is_join c token next after

-- a token, which may have been joined, before others; a joined name may be joined again
abbrev pub joined_from : Counter → Bool → Piece → List Piece → List (Bool × Piece)
joined_from c joined token [] = (joined, token) ∷ []
joined_from c joined token (next ∷ []) = (joined, token) ∷ (false, next) ∷ []
joined_from c joined token (next ∷ after ∷ tokens) =
    if is_join c token next after then joined_from c true (joined_name c token) tokens else (joined, token) ∷ joined_from c false next (after ∷ tokens)

-- each name that an & and the counter follow is one name with the number, from the left on; with each token whether it was joined
abbrev pub joined : Counter → List Piece → List (Bool × Piece)
joined c [] = []
joined c (token ∷ tokens) = joined_from c false token tokens

-- ---- the other tokens that are the counter

-- the tokens as they are
abbrev pub kept : List (Bool × Piece) → List Piece
kept tokens = map (λ token. token.1) tokens

abbrev pub number_or : Counter → Bool × Piece → Piece
number_or c token = if token.0 then token.1 else (if is_counter c token.1 then number_token c.number else token.1)

-- the number in place of the counter, but for what was joined
abbrev pub numbered : Counter → List (Bool × Piece) → List Piece
numbered c tokens = map (number_or c) tokens

-- after an operation the modifier's name stays
abbrev pub behind_operation : Counter → List (Bool × Piece) → List Piece
behind_operation c [] = []
behind_operation c (token ∷ []) = numbered c (token ∷ [])
behind_operation c (token ∷ name ∷ tokens) =
    if has_text (codes ".") token.1 then token.1 ∷ name.1 ∷ numbered c tokens else numbered c (token ∷ name ∷ tokens)

abbrev pub behind_word : Counter → Word → List (Bool × Piece) → List Piece
behind_word c (Word.Operation op) tokens = behind_operation c tokens
behind_word c Word.Pspace tokens = behind_operation c tokens
behind_word c _ tokens = numbered c tokens

-- the word is never joined
abbrev pub from_word : Counter → Word → List Piece → List Piece
from_word c word [] = []
from_word c word (token ∷ tokens) = token ∷ behind_word c word (joined c tokens)

abbrev pub is_label : Bool × Piece → Bool
is_label token = is_name token.1.kind

-- among the names at the front no number stands for the counter
abbrev pub without_word : Counter → List (Bool × Piece) → List Piece
without_word c tokens = kept (taken_while is_label tokens) ++ numbered c (dropped_while is_label tokens)

-- ---- lines

-- the tokens of a line from its word on, or all of them if it has no word
abbrev pub copied_tokens : Counter → LineForm → Option Word → List Piece → List Piece
copied_tokens c LineForm.Statement None tokens = without_word c (joined c tokens)
copied_tokens c LineForm.Statement (Some word) tokens = from_word c word tokens
copied_tokens c _ word tokens = numbered c (joined c tokens)

-- a line in the copy of this number; before a word no number stands for the counter
abbrev pub in_copy : Counter → SourceLine → SourceLine
in_copy c line = record line { front = kept (joined c line.front); tokens = copied_tokens c line.form line.word line.tokens }

-- a line within copies of several blocks, the outermost first
abbrev pub in_copies : List Counter → SourceLine → SourceLine
in_copies [] line = line
in_copies (c ∷ cs) line = in_copies cs (in_copy c line)
