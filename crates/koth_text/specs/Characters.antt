-- The characters of a page, and those that HTML gives a meaning.
use Rattle.std.specs.{Prelude.{ℕ, ◌==◌, Bool, ◌||◌, ◌&&◌, not, nat_le, List}, List.filter, Str.byte}

-- a character that begins or ends a tag or the value of an attribute
abbrev pub is_markup : ℕ → Bool
is_markup b = b == byte "<" || b == byte ">" || b == byte "\"" || b == byte "'"

-- a printable character of ASCII
abbrev pub is_printable : ℕ → Bool
is_printable b = nat_le 32 b && nat_le b 126

-- a printable character that begins and ends nothing
abbrev pub is_harmless : ℕ → Bool
is_harmless b = is_printable b && not (is_markup b)

-- a byte of a page: a printable character or a line feed
abbrev pub is_page_byte : ℕ → Bool
is_page_byte b = is_printable b || b == 10

-- all that begins or ends a tag or the value of an attribute, in its order
abbrev pub markup_of : List ℕ → List ℕ
markup_of text = filter is_markup text
