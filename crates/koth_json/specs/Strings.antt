-- A string of JSON for any bytes: each byte that is no UTF-8 stands in it as U+FFFD.
use Rattle.std.specs.Prelude.{ℕ, zero, suc, ◌+◌, ◌/◌, ◌%◌, ◌==◌, ◌||◌, nat_lt, if◌then◌else◌, List, [], ◌∷◌, ◌++◌, length, take, drop, codes}
use Rattle.std.specs.{Char.digit_char, List.flat_map, Str.Lossy.{replacement_bytes, utf8_valid_len}}

-- the bytes as UTF-8: their longest beginning that is UTF-8, U+FFFD for the byte after it, and so on with the bytes
-- after that one, for as many bytes that are no UTF-8 at most
abbrev pub mended_within : ℕ → List ℕ → List ℕ
mended_within zero bytes = bytes
mended_within (suc n) bytes =
    let valid = utf8_valid_len bytes in
    if valid == length bytes then bytes else take valid bytes ++ (replacement_bytes ++ mended_within n (drop (valid + 1) bytes))

unfoldable pub mended : List ℕ → List ℕ
mended bytes = mended_within (length bytes) bytes

-- a byte of UTF-8 in a string: a quotation mark and a backslash after a backslash, a control character by its number
abbrev pub byte_text : ℕ → List ℕ
byte_text b =
    if b == 34 || b == 92 then 92 ∷ b ∷ []
    else (if nat_lt b 32 || b == 127 then codes "\\u00" ++ digit_char (b / 16) ∷ digit_char (b % 16) ∷ [] else b ∷ [])

-- the string
abbrev pub string_text : List ℕ → List ℕ
string_text bytes = codes "\"" ++ (flat_map byte_text (mended bytes) ++ codes "\"")
