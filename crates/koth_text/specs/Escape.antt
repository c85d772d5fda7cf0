-- What others wrote, as it stands in a page: no byte of it is read as a tag, as the end of an attribute or in another encoding.
use Rattle.std.specs.{Prelude.{ℕ, ◌==◌, nat_le, if◌then◌else◌, List, [], ◌∷◌, ◌++◌, length, codes, decimal}, Char.is_control, List.flat_map, Str.{byte, chars}}
use Rattle.std.specs.{declared.str.Utf8Chunk.Utf8Chunk, Str.Chunks.{utf8_chunk_invalid, utf8_chunk_valid}, Str.Lossy.utf8_lossy}

-- a character by its number
abbrev pub reference : ℕ → List ℕ
reference c = codes "&#" ++ decimal c ++ codes ";"

-- a character that HTML gives no meaning: itself if it is ASCII, and else its number; U+FFFD stands for a control character
abbrev pub plain_text : ℕ → List ℕ
plain_text c = if is_control c then reference 0xFFFD else (if nat_le c 126 then c ∷ [] else reference c)

-- a character: each of the five that HTML gives a meaning by a reference
abbrev pub character_text : ℕ → List ℕ
character_text c =
    if c == byte "<" then codes "&lt;" else (
    if c == byte ">" then codes "&gt;" else (
    if c == byte "&" then codes "&amp;" else (
    if c == byte "\"" then codes "&quot;" else (
    if c == byte "'" then codes "&#39;" else plain_text c))))

-- the characters of a text: those that its bytes spell in UTF-8, and U+FFFD for each sequence that spells none
abbrev pub characters : List ℕ → List ℕ
characters text = chars (utf8_lossy text)

-- the characters of a text and of the bytes after it that are no text
abbrev pub chunk_characters : Utf8Chunk → List ℕ
chunk_characters x = chars (utf8_chunk_valid x) ++ (if length (utf8_chunk_invalid x) == 0 then [] else 0xFFFD ∷ [])

-- a text
unfoldable pub escaped : List ℕ → List ℕ
escaped text = flat_map character_text (characters text)
