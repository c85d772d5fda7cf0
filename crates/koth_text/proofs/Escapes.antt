-- What stands for a chunk of bytes and for the rest of them, for `put_escaped`.
use Rattle.std.proofs.Common.{◌≡◌, ℕ, ◌<◌, List, [], ◌∷◌, ◌++◌, eqb, length, drop, refl, sym, ap, ◌∙◌, append_assoc, append-nil, arith}
use Rattle.std.specs.{declared.str.Utf8Chunk.Utf8Chunk, Char.encode_utf8, List.flat_map, Str.{chars, IsUtf8}, Str.Chunks.{utf8_chunk_invalid, utf8_chunk_valid}}
use Rattle.{std.specs.Str.Lossy.{replacement_bytes, utf8_invalid_len, utf8_lossy, utf8_valid_len}, std.proofs.lemmas.Bool.{cond_both, eqb-false, eqb-true}}
use Rattle.std.proofs.{lemmas.List.Concat.flat_map-append, lemmas.Str.{chars-append, chars-encodes, chars-nil, utf8_lossy_chunk, utf8_lossy_empty, utf8_lossy_last_chunk}}
use Rattle.koth_text.specs.Escape.{character_text, chunk_characters, escaped}

IsUtf8-replacement : IsUtf8 replacement_bytes
unfolding encode_utf8
IsUtf8-replacement = (0xFFFD ∷ [], (refl, refl))

chars-replacement : chars replacement_bytes ≡ 0xFFFD ∷ []
unfolding encode_utf8
chars-replacement = chars-encodes (0xFFFD ∷ []) refl

pub escaped-none : (bs : List ℕ) → length bs ≡ 0 → escaped bs ≡ []
unfolding escaped
escaped-none bs none = ap (λ t. flat_map character_text (chars t)) (utf8_lossy_empty bs none) ∙ ap (flat_map character_text) chars-nil

-- bytes that end with their text
escaped-last : (bs valid invalid rest : List ℕ) → bs ≡ valid ++ (invalid ++ rest) → length valid ≡ utf8_valid_len bs → length invalid ≡ 0 → length rest ≡ 0 → IsUtf8 valid
    → escaped bs ≡ flat_map character_text (chars valid ++ []) ++ escaped rest
unfolding escaped
escaped-last bs valid invalid rest is valid_len none last text =
    ap (λ t. flat_map character_text (chars t)) (utf8_lossy_last_chunk bs valid invalid rest is valid_len none last)
    ∙ ap (flat_map character_text) (chars-append valid (utf8_lossy rest) text)
    ∙ flat_map-append character_text (chars valid) (chars (utf8_lossy rest))
    ∙ ap (λ cs. flat_map character_text cs ++ escaped rest) (sym (append-nil (chars valid)))

-- bytes whose text is followed by some that are no text
escaped-broken : (bs valid invalid rest : List ℕ) → bs ≡ valid ++ (invalid ++ rest) → length valid ≡ utf8_valid_len bs
    → length invalid ≡ utf8_invalid_len (drop (utf8_valid_len bs) bs) → 0 < length invalid → IsUtf8 valid
    → escaped bs ≡ flat_map character_text (chars valid ++ 0xFFFD ∷ []) ++ escaped rest
unfolding escaped
escaped-broken bs valid invalid rest is valid_len invalid_len some text =
    let left = chars (utf8_lossy rest) in
    let replaced : chars (replacement_bytes ++ utf8_lossy rest) ≡ 0xFFFD ∷ left =
    chars-append replacement_bytes (utf8_lossy rest) IsUtf8-replacement ∙ ap (λ cs. cs ++ left) chars-replacement in
    ap (λ t. flat_map character_text (chars t)) (utf8_lossy_chunk bs valid invalid rest is valid_len invalid_len some)
    ∙ ap (flat_map character_text)
    (chars-append valid (replacement_bytes ++ utf8_lossy rest) text ∙ ap (λ cs. chars valid ++ cs) replaced ∙ sym (append_assoc (chars valid) (0xFFFD ∷ []) left))
    ∙ flat_map-append character_text (chars valid ++ 0xFFFD ∷ []) left

-- bytes, by their first chunk
pub escaped-chunk : (bs rest : List ℕ) (x : Utf8Chunk) → bs ≡ utf8_chunk_valid x ++ (utf8_chunk_invalid x ++ rest)
    → length (utf8_chunk_valid x) ≡ utf8_valid_len bs → length (utf8_chunk_invalid x) ≡ utf8_invalid_len (drop (utf8_valid_len bs) bs)
    → (length (utf8_chunk_invalid x) ≡ 0 → length rest ≡ 0) → IsUtf8 (utf8_chunk_valid x)
    → escaped bs ≡ flat_map character_text (chunk_characters x) ++ escaped rest
escaped-chunk bs rest x is valid_len invalid_len last text =
    let valid = utf8_chunk_valid x in
    let invalid = utf8_chunk_invalid x in
    cond_both (eqb (length invalid) 0) [] (0xFFFD ∷ []) (λ (cs : List ℕ). escaped bs ≡ flat_map character_text (chars valid ++ cs) ++ escaped rest)
    (λ t. let none = eqb-true (length invalid) 0 t in escaped-last bs valid invalid rest is valid_len none (last none) text)
    (λ f. let some : 0 < length invalid = omega (arith, eqb-false (length invalid) 0 f) in escaped-broken bs valid invalid rest is valid_len invalid_len some text)
