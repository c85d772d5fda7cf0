-- The name of a file as messages have it.
use Rattle.std.specs.{Prelude.{ℕ, ◌+◌, ◌/◌, ◌%◌, nat_lt, ◌==◌, if◌then◌else◌, List, [], ◌∷◌}, Char.encode_utf8, List.flat_map, Str.chars}
use Rattle.redcode_lines.specs.Shown.{is_acted_on}

-- the last digit of a number in base 16: 0 to 9 and a to f
abbrev pub hex_digit : ℕ → ℕ
hex_digit n = if nat_lt (n % 16) 10 then 48 + n % 16 else 87 + n % 16

-- a byte as `\x` and two digits
abbrev pub byte_shown : ℕ → List ℕ
byte_shown n = 92 ∷ 120 ∷ hex_digit (n / 16) ∷ hex_digit n ∷ []

-- a character that a terminal acts upon by its bytes, and any other as it is
abbrev pub shown_character : ℕ → List ℕ
shown_character c = if is_acted_on c then flat_map byte_shown (encode_utf8 c) else encode_utf8 c

unfoldable pub shown_name : List ℕ → List ℕ
shown_name name = flat_map shown_character (chars name)

-- the same, but for a line feed, which stays
abbrev pub shown_in_lines : ℕ → List ℕ
shown_in_lines c = if c == 10 then c ∷ [] else shown_character c

unfoldable pub shown_lines : List ℕ → List ℕ
shown_lines text = flat_map shown_in_lines (chars text)
