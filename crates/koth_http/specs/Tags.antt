-- The tag of a text, by which a browser says that it has that text already.
use Rattle.std.specs.Prelude.{◌≡◌, ℕ, ◌≤◌, nat_le, Bool, true, false, ◌||◌, ◌&&◌, List, [], ◌∷◌, ◌++◌, length, map, take, codes}
use Rattle.std.specs.{List.list_any, Str.{bytes_eq, str_eq_ignore_ascii_case}}
use Rattle.{hex.specs.Hex.encode_lower, sha2.specs.Sha256.sha256, httparse.specs.{Grammar.{ReadsRequest, RequestHead}, Spans.name_and_value}, koth_http.specs.Asked.most_fields}

-- the SHA-256 of the text in hexadecimal digits, between quotation marks
abbrev pub tag_of : List ℕ → List ℕ
tag_of text = codes "\"" ++ (encode_lower (sha256 text) ++ codes "\"")

abbrev pub begins_with : List ℕ → List ℕ → Bool
begins_with part text = nat_le (length part) (length text) && bytes_eq (take (length part) text) part

-- a part is somewhere in a text
abbrev pub has_part : List ℕ → List ℕ → Bool
has_part part [] = false
has_part part (b ∷ bs) = begins_with part (b ∷ bs) || has_part part bs

-- a field `If-None-Match`, by its name and its value, that has this tag
abbrev pub names_tag : List ℕ → List ℕ × List ℕ → Bool
names_tag tag field = str_eq_ignore_ascii_case field.0 (codes "if-none-match") && has_part tag field.1

-- a head has a field that names this tag
abbrev pub knows : RequestHead → List ℕ → Bool
knows head tag = list_any (names_tag tag) (map name_and_value head.fields)

-- what is said of a tag: it is what the head says that has come in these bytes
abbrev pub IsToldOf : List ℕ → List ℕ → Bool → Type 0
IsToldOf bytes tag known =
    (head : RequestHead) (rest : List ℕ) → ReadsRequest bytes head rest → length head.fields ≤ most_fields → known ≡ knows head tag
