-- What stands for a text in a page: characters that begin and end nothing, and bytes of ASCII alone.
use Rattle.std.proofs.Common.{◌≡◌, ℕ, ◌<◌, ◌≤◌, ◌/◌, ◌%◌, zero, suc, Bool, true, false, not, ◌&&◌, inl, inr, cond, eqb, leb, List, [], ◌∷◌, ◌++◌, codes, decimal, refl, ◌∙◌, arith}
use Rattle.std.specs.{Char.is_control, Fmt.{digits, digits_onto, digit_glyph}, List.{flat_map, list_all}}
use Rattle.std.proofs.{lemmas.Bool.{agree_below_at, and_cases, and_from, and_parts, cond_both, le-leb, leb-false, not_from_false, or_from, or_left, or_parts}, lemmas.List.Folds.list_all-append}
use Rattle.koth_text.specs.{Characters.{is_harmless, is_markup, is_page_byte, is_printable}, Escape.{character_text, characters, escaped, plain_text, reference}}

-- ---- texts all of whose bytes pass a test

-- two of them, one after the other
abbrev pub Pass : (ℕ → Bool) → List ℕ → Type 0
Pass p text = list_all p text ≡ true

pub both : (p : ℕ → Bool) (xs ys : List ℕ) → Pass p xs → Pass p ys → Pass p (xs ++ ys)
both p xs ys a b = list_all-append p xs ys ∙ and_from (list_all p xs) (list_all p ys) a b

pub each : {X : Type 0} (p : ℕ → Bool) (f : X → List ℕ) → ((x : X) → Pass p (f x)) → (xs : List X) → Pass p (flat_map f xs)
each p f h [] = refl
each p f h (x ∷ xs) = both p (f x) (flat_map f xs) (h x) (each p f h xs)

pub weaker : (p q : ℕ → Bool) → ((b : ℕ) → p b ≡ true → q b ≡ true) → (xs : List ℕ) → Pass p xs → Pass q xs
weaker p q h [] a = refl
weaker p q h (x ∷ xs) a =
    let parts = and_parts (p x) (list_all p xs) a in
    and_from (q x) (list_all q xs) (h x parts.0) (weaker p q h xs parts.1)

digits_pass : (p : ℕ → Bool) → ((d : ℕ) → d < 10 → p (digit_glyph false d) ≡ true) → (k n : ℕ) (acc : List ℕ) → Pass p acc → Pass p (digits_onto k 10 false n acc)
digits_pass p h zero n acc a = a
digits_pass p h (suc k) n acc a =
    let digit = digit_glyph false (n % 10) in
    let last : Pass p (digit ∷ acc) = and_from (p digit) (list_all p acc) (h (n % 10) (omega arith)) a in
    cond_both (eqb (n / 10) 0) (digit ∷ acc) (digits_onto k 10 false (n / 10) (digit ∷ acc)) (Pass p) (λ _. last) (λ _. digits_pass p h k (n / 10) (digit ∷ acc) last)

-- ---- what stands for a text begins and ends nothing

harmless_digit : (d : ℕ) → d < 10 → is_harmless (digit_glyph false d) ≡ true
harmless_digit d below = agree_below_at (λ d. is_harmless (digit_glyph false d)) (λ _. true) 10 d refl below

pub harmless_decimal : (n : ℕ) → Pass is_harmless (decimal n)
unfolding digits
harmless_decimal n = digits_pass is_harmless harmless_digit 64 n [] refl

harmless_reference : (c : ℕ) → Pass is_harmless (reference c)
harmless_reference c =
    both is_harmless (codes "&#" ++ decimal c) (codes ";") (both is_harmless (codes "&#") (decimal c) refl (harmless_decimal c)) refl

not_control_low : (c : ℕ) → is_control c ≡ false → 32 ≤ c
not_control_low c h =
    let first : (leb 0 c && leb c 31) ≡ false = (or_parts _ _ h).0 in
    elim (and_cases (leb 0 c) (leb c 31) first) [ inl a ↦ absurd (omega (arith, leb-false 0 c a)) | inr b ↦ omega (arith, leb-false c 31 b) ]

harmless_plain : (c : ℕ) → eqb c 60 ≡ false → eqb c 62 ≡ false → eqb c 34 ≡ false → eqb c 39 ≡ false → Pass is_harmless (plain_text c)
harmless_plain c less greater quote apostrophe =
    cond_both (is_control c) (reference 0xFFFD) (cond (leb c 126) (c ∷ []) (reference c)) (Pass is_harmless) (λ _. harmless_reference 0xFFFD)
    (λ shown. cond_both (leb c 126) (c ∷ []) (reference c) (Pass is_harmless)
    (λ high.
    let printable : is_printable c ≡ true = and_from (leb 32 c) (leb c 126) (le-leb 32 c (not_control_low c shown)) high in
    let nothing : is_markup c ≡ false = or_from _ _ (or_from _ _ (or_from _ _ less greater) quote) apostrophe in
    and_from _ true (and_from (is_printable c) (not (is_markup c)) printable (not_from_false (is_markup c) nothing)) refl)
    (λ _. harmless_reference c))

either : (c b : ℕ) (text other : List ℕ) → Pass is_harmless text → (eqb c b ≡ false → Pass is_harmless other) → Pass is_harmless (cond (eqb c b) text other)
either c b text other here there = cond_both (eqb c b) text other (Pass is_harmless) (λ _. here) there

harmless_character : (c : ℕ) → Pass is_harmless (character_text c)
harmless_character c =
    let last = cond (eqb c 39) (codes "&#39;") (plain_text c) in
    let fourth = cond (eqb c 34) (codes "&quot;") last in
    let third = cond (eqb c 38) (codes "&amp;") fourth in
    let second = cond (eqb c 62) (codes "&gt;") third in
    either c 60 (codes "&lt;") second refl (λ less.
    either c 62 (codes "&gt;") third refl (λ greater.
    either c 38 (codes "&amp;") fourth refl (λ _.
    either c 34 (codes "&quot;") last refl (λ quote.
    either c 39 (codes "&#39;") (plain_text c) refl (λ apostrophe. harmless_plain c less greater quote apostrophe)))))

pub harmless : (text : List ℕ) → list_all is_harmless (escaped text) ≡ true
unfolding escaped
harmless text = each is_harmless character_text harmless_character (characters text)

-- ---- and every byte of it is of ASCII

abbrev pub Ascii : List ℕ → Type 0
Ascii text = list_all is_page_byte text ≡ true

pub page_byte : (b : ℕ) → is_harmless b ≡ true → is_page_byte b ≡ true
page_byte b h = or_left (is_printable b) (eqb b 10) (and_parts (is_printable b) (not (is_markup b)) h).0

pub ascii_decimal : (n : ℕ) → Ascii (decimal n)
ascii_decimal n = weaker is_harmless is_page_byte page_byte (decimal n) (harmless_decimal n)

pub ascii_escaped : (text : List ℕ) → Ascii (escaped text)
ascii_escaped text = weaker is_harmless is_page_byte page_byte (escaped text) (harmless text)
