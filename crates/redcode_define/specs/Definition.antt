-- The words of a definition, NAME=VALUE.
use Rattle.std.specs.{Prelude.{ℕ, ◌+◌, Bool, not, ◌&&◌, ◌||◌, ◌==◌, nat_lt, if◌then◌else◌, List, [], ◌∷◌, length, take, drop, Option, Some, None}, List.{list_all, prefix_len}}
use Rattle.{redcode_text.specs.{Tokens.is_of_kind, declared.token.TokenKind.TokenKind}, redcode_define.specs.declared.words.Definition.Definition}

abbrev pub is_no_equals : ℕ → Bool
is_no_equals b = not (b == 61)

-- neither a line feed nor a semicolon
abbrev pub is_body_byte : ℕ → Bool
is_body_byte b = not (b == 10 || b == 59)

-- the bytes before the first equals sign
abbrev pub name_length : List ℕ → ℕ
name_length text = prefix_len is_no_equals text

-- a name of Redcode and a body without line feed and comment, around the first equals sign
abbrev pub is_definition : List ℕ → Bool
is_definition text = nat_lt (name_length text) (length text)
    && (is_of_kind TokenKind.Name (take (name_length text) text) && list_all is_body_byte (drop (name_length text + 1) text))

abbrev pub definition_of : List ℕ → Option (List ℕ × List ℕ)
definition_of text =
    if is_definition text then Some (take (name_length text) text, drop (name_length text + 1) text) else None

-- a definition without its place in memory
abbrev pub name_and_value : Definition → List ℕ × List ℕ
name_and_value found = (found.name.now, found.value.now)
