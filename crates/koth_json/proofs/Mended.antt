-- Bytes are mended piece by piece, as `put_content` does it: those before the first that is no UTF-8, its replacement, and the rest.
use Rattle.std.proofs.Common.{◌≡◌, ℕ, ◌+◌, ◌<◌, ◌≤◌, zero, suc, ⊎_elim, List, ◌++◌, length, take, drop, refl, sym, ap, ◌∙◌, append_assoc, arith, length-drop}
use Rattle.std.specs.{List.flat_map, Str.IsUtf8, Str.Lossy.{replacement_bytes, utf8_valid_len}}
use Rattle.std.proofs.lemmas.{Bool.{cases_lt, eq-eqb, ne_eqb}, List.drop-drop, List.Concat.flat_map-append, Str.{utf8_valid_len-IsUtf8, utf8_valid_len_le}}
use Rattle.koth_json.specs.Strings.{byte_text, mended, mended_within}

whole : (n : ℕ) (bs : List ℕ) → utf8_valid_len bs ≡ length bs → mended_within n bs ≡ bs
whole zero bs valid = refl
whole (suc n) bs valid = rw (eq-eqb _ _ valid)

spoilt : (n : ℕ) (bs : List ℕ) → ¬ (utf8_valid_len bs ≡ length bs)
    → mended_within (suc n) bs ≡ take (utf8_valid_len bs) bs ++ (replacement_bytes ++ mended_within n (drop (utf8_valid_len bs + 1) bs))
spoilt n bs bad = rw (ne_eqb _ _ bad)

-- the first argument may be any number from the length of the bytes up
any : (n m : ℕ) (bs : List ℕ) → length bs ≤ n → length bs ≤ m → mended_within n bs ≡ mended_within m bs
any zero m bs p q = let within = utf8_valid_len_le bs in sym (whole m bs (omega arith))
any (suc n) zero bs p q = let within = utf8_valid_len_le bs in whole (suc n) bs (omega arith)
any (suc n) (suc m) bs p q =
    let valid = utf8_valid_len bs in
    let within = utf8_valid_len_le bs in
    ⊎_elim
    (λ (short : valid < length bs).
    let bad : ¬ (valid ≡ length bs) = omega arith in
    let behind = length-drop (valid + 1) bs in
    spoilt n bs bad ∙ ap (λ l. take valid bs ++ (replacement_bytes ++ l)) (any n m (drop (valid + 1) bs) (omega arith) (omega arith)) ∙ sym (spoilt m bs bad))
    (λ (long : length bs ≤ valid). whole (suc n) bs (omega arith) ∙ sym (whole (suc m) bs (omega arith)))
    (cases_lt valid (length bs))

mended_spoilt : (bs : List ℕ) (valid : ℕ) → valid ≡ utf8_valid_len bs → valid < length bs
    → mended bs ≡ take valid bs ++ (replacement_bytes ++ mended (drop (valid + 1) bs))
unfolding mended
mended_spoilt bs valid is short =
    let bad : ¬ (utf8_valid_len bs ≡ length bs) = omega arith in
    let behind = length-drop (utf8_valid_len bs + 1) bs in
    any (length bs) (suc (length bs)) bs (omega arith) (omega arith)
    ∙ spoilt (length bs) bs bad
    ∙ ap (λ l. take (utf8_valid_len bs) bs ++ (replacement_bytes ++ l))
    (any (length bs) (length (drop (utf8_valid_len bs + 1) bs)) (drop (utf8_valid_len bs + 1) bs) (omega arith) (omega arith))
    ∙ ap (λ n. take n bs ++ (replacement_bytes ++ mended_within (length (drop (n + 1) bs)) (drop (n + 1) bs))) (sym is)

-- one step of `put_content`: `line` gets the first `valid` bytes, as `front`, and a replacement of the next byte, as `behind`. With the `rest` of
-- the bytes it is then what it would be with all of them.
pub put-spoilt : (start line front behind bs rest : List ℕ) (valid : ℕ) → valid ≡ utf8_valid_len bs → valid < length bs
    → front ≡ line ++ flat_map byte_text (take valid bs) → behind ≡ front ++ replacement_bytes → rest ≡ drop 1 (drop valid bs)
    → line ++ flat_map byte_text (mended bs) ≡ start → behind ++ flat_map byte_text (mended rest) ≡ start
put-spoilt start line front behind bs rest valid is short first second left so_far =
    let tail = flat_map byte_text (mended (drop (valid + 1) bs)) in
    let all : flat_map byte_text (mended bs) ≡ flat_map byte_text (take valid bs) ++ (replacement_bytes ++ tail) =
    ap (flat_map byte_text) (mended_spoilt bs valid is short) ∙ flat_map-append byte_text (take valid bs) (replacement_bytes ++ mended (drop (valid + 1) bs)) in
    let same : rest ≡ drop (valid + 1) bs = left ∙ drop-drop 1 valid bs in
    let text = flat_map byte_text (take valid bs) in
    ap (λ l. behind ++ flat_map byte_text (mended l)) same ∙ ap (λ l. l ++ tail) (second ∙ ap (λ l. l ++ replacement_bytes) first)
    ∙ append_assoc (line ++ text) replacement_bytes tail ∙ append_assoc line text (replacement_bytes ++ tail)
    ∙ ap (λ l. line ++ l) (sym all) ∙ so_far

-- nothing is mended in bytes that are UTF-8
pub mended-text : (bs : List ℕ) → IsUtf8 bs → mended bs ≡ bs
unfolding mended
mended-text bs text = whole (length bs) bs (utf8_valid_len-IsUtf8 bs text)
