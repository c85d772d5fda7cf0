-- A string of JSON for any bytes, in ASCII: each byte is the character of its number.
use Rattle.std.specs.{Prelude.{ℕ, ◌/◌, ◌%◌, ◌==◌, ◌||◌, nat_lt, if◌then◌else◌, List, [], ◌∷◌, ◌++◌, codes}, Char.digit_char, List.flat_map}

-- a quotation mark and a backslash after a backslash, and a byte that can't be printed by its number
abbrev pub byte_text : ℕ → List ℕ
byte_text b =
    if b == 34 || b == 92 then 92 ∷ b ∷ []
    else (if nat_lt b 32 || nat_lt 126 b then codes "\\u00" ++ digit_char (b / 16) ∷ digit_char (b % 16) ∷ [] else b ∷ [])

-- the string
abbrev pub string_text : List ℕ → List ℕ
string_text bytes = codes "\"" ++ (flat_map byte_text bytes ++ codes "\"")
