-- Lines in which no counter follows an &: each token that is a counter becomes its number where it stands. No part of the definition: a shorter way to
-- the same.
use Rattle.std.specs.{Prelude.{ℕ, zero, suc, Bool, false, ◌||◌, ◌&&◌, if◌then◌else◌, List, [], ◌∷◌, length, map, is_some, Option, Some, None, codes}, Str.bytes_eq}
use Rattle.redcode_text.specs.{declared.vocabulary.Word.Word, Tokens.Piece}
use Rattle.{redcode_lines.specs.{declared.reading.LineForm.LineForm, Line.{SourceLine, has_text, is_name, is_name_token, taken_while}}, redcode_copies.specs.Counter.{Counter, number_token}}

-- the number of the first counter of this name
abbrev pub number_of : List Counter → List ℕ → Option ℕ
number_of [] name = None
number_of (c ∷ cs) name = if bytes_eq name c.name then Some c.number else number_of cs name

-- a token is one of the counters
abbrev pub is_numbered : List Counter → Piece → Bool
is_numbered cs token = is_name token.kind && is_some (number_of cs token.text)

-- a counter is among the tokens
abbrev pub has_number : List Counter → List Piece → Bool
has_number cs [] = false
has_number cs (token ∷ tokens) = is_numbered cs token || has_number cs tokens

-- a counter among the tokens follows an &, which may stand before them
abbrev pub has_join : List Counter → Bool → List Piece → Bool
has_join cs is_behind [] = false
has_join cs is_behind (token ∷ tokens) = (is_behind && is_numbered cs token) || has_join cs (has_text (codes "&") token) tokens

abbrev pub number_or_token : Option ℕ → Piece → Piece
number_or_token None token = token
number_or_token (Some n) token = number_token n

-- the number of the first counter that a token is, or the token
abbrev pub number_by : List Counter → Piece → Piece
number_by cs token = if is_name token.kind then number_or_token (number_of cs token.text) token else token

-- a dot and the modifier's name after it are two tokens that stay
abbrev pub modifier_count : List Piece → ℕ
modifier_count [] = 0
modifier_count (token ∷ []) = 0
modifier_count (token ∷ name ∷ tokens) = if has_text (codes ".") token then 2 else 0

abbrev pub kept_behind : Word → List Piece → ℕ
kept_behind (Word.Operation op) tokens = modifier_count tokens
kept_behind Word.Pspace tokens = modifier_count tokens
kept_behind _ tokens = 0

-- the number of tokens at the front that stay whatever they are
abbrev pub kept_count : LineForm → Option Word → List Piece → ℕ
kept_count LineForm.Statement None tokens = length (taken_while is_name_token tokens)
kept_count LineForm.Statement (Some word) [] = 0
kept_count LineForm.Statement (Some word) (token ∷ tokens) = suc (kept_behind word tokens)
kept_count _ word tokens = 0

-- tokens changed by f, but for the first ones, whose number is given: these stay
abbrev pub changed_from : (Piece → Piece) → ℕ → List Piece → List Piece
changed_from f zero tokens = map f tokens
changed_from f (suc n) [] = []
changed_from f (suc n) (token ∷ tokens) = token ∷ changed_from f n tokens

-- a line in which no counter follows an &, within copies
abbrev pub plain_copy : List Counter → SourceLine → SourceLine
plain_copy cs line = record line { tokens = changed_from (number_by cs) (kept_count line.form line.word line.tokens) line.tokens }
