-- The part of a line that is told as the one to blame.
use Rattle.std.specs.{Prelude.{◌≡◌, ◌≤◌, ◌⊎◌, ◌+◌, ◌-◌, ℕ, Bool, true, false, ◌&&◌, ◌||◌, ◌==◌, nat_lt, nat_le, if◌then◌else◌, List, [], ◌∷◌, take, drop, length, codes}, List.{list_all, list_any}}
use Rattle.{war_types.specs.Title.is_blank, redcode_text.specs.{Tokens.{ScannedPiece, tokens_of}, Vocabulary.is_word}, redcode_lines.specs.declared.place.Span.Span}

-- a line's tokens are read from its beginning on, or from behind the word of an assertion on
abbrev pub is_read_from : List ℕ → ℕ → Bool
is_read_from text from =
    if from == 0 then true else
    if nat_lt from 7 || nat_lt (length text) from then false else is_word (codes ";assert") (drop (from - 7) (take from text))

abbrev pub ends_at : ℕ → ScannedPiece → Bool
ends_at end token = token.at + length token.text == end

-- one of these tokens begins at the first place, and it or one behind it ends at the second
abbrev pub are_from : ℕ → ℕ → List ScannedPiece → Bool
are_from from end [] = false
are_from from end (token ∷ tokens) =
    if token.at == from then list_any (ends_at end) (token ∷ tokens) else are_from from end tokens

-- a part of a line whose tokens are read from a place on begins where one of them begins, and ends where one ends
abbrev pub is_of_tokens : List ℕ → ℕ → Span → Bool
is_of_tokens text read span =
    if nat_le read span.from && is_read_from text read
    then are_from (span.from - read) (span.from - read + span.width) (tokens_of (drop read text)) else false

-- the line but for blanks in front
abbrev pub is_whole : List ℕ → Span → Bool
is_whole text span =
    if span.width == 4294967295 && nat_le span.from (length text) then list_all is_blank (take span.from text) else false

-- from a token of the line to one of its tokens, or the line
abbrev pub IsOfLine : List ℕ → Span → Type 0
IsOfLine text span = (is_whole text span ≡ true) ⊎ ((read : ℕ) × (is_of_tokens text read span ≡ true))
