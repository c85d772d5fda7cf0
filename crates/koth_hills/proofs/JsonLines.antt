-- The lines of JSON of replies, computed, for the functions that put them without memory.
use Rattle.std.proofs.Common.{◌≡◌, ◌∙◌, ℕ, List, [], ◌++◌, ap, append_assoc, append-nil, codes, decimal, refl}
use Rattle.std.specs.{Char.encode_utf8, Str.{chars, is_utf8}, Str.Lossy.utf8_valid_len}
use Rattle.koth_json.specs.{Keys.key_text, Objects.{field_text, further_field}, Reply.{fell_line, worn_line}, Strings.mended}

-- lists that end, each after the one before it
two : (a x b end : List ℕ) → (a ++ (x ++ (b ++ []))) ++ end ≡ a ++ (x ++ (b ++ end))
two a x b end =
    append_assoc a (x ++ (b ++ [])) end
    ∙ ap (λ l. a ++ l) (append_assoc x (b ++ []) end ∙ ap (λ l. x ++ (l ++ end)) (append-nil b))

-- what was put last, and a rest, behind what was there before
pub put_last : (before after text rest : List ℕ) → after ≡ before ++ text → after ++ rest ≡ before ++ (text ++ rest)
put_last before after text rest is = ap (λ l. l ++ rest) is ∙ append_assoc before text rest

pub worn_is : worn_line ≡ codes "{\"type\":\"worn\"}\n"
unfolding chars encode_utf8 field_text is_utf8 key_text mended utf8_valid_len
worn_is = refl

pub fell_is : (entry points : ℕ) → fell_line entry points
    ≡ codes "{\"type\":\"fell\",\"entry\":" ++ (decimal entry ++ (codes ",\"points\":" ++ (decimal points ++ codes "}\n")))
unfolding chars encode_utf8 field_text further_field is_utf8 key_text mended utf8_valid_len
fell_is entry points =
    ap (λ l. codes "{\"type\":\"fell\",\"entry\":" ++ l) (two (decimal entry) (codes ",\"points\":") (decimal points) (codes "}\n"))
