-- What stands for bytes in a string, read back as the crate `json` reads a string: those bytes.
use Rattle.std.proofs.Common.{◌≡◌, ℕ, zero, suc, ◌+◌, ◌/◌, ◌%◌, ◌^◌, ◌<◌, ◌≤◌, ◌==◌, inl, inr, ◌⊎◌, Bool, true, false, cond, List, [], ◌∷◌, ◌++◌, length, Option, Some, None, option_and_then, codes, decimal, refl, sym, ap, ◌∙◌, subst, append_assoc, arith}
use Rattle.std.proofs.lemmas.Bool.{agree_below_at, cases_eq, cases_lt, eqb-true, false≢true, le-ltb, lt-ltb, ne_eqb}
use Rattle.std.specs.{Char.{digit_char, encode_utf8}, List.{flat_map}}
use Rattle.json.specs.Text.{code_unit, content, is_high_surrogate, is_low_surrogate, plain, prepend, short_escape}
use Rattle.json.specs.Token as token
use Rattle.json.specs.Lex.{Lexeme, between, in_string, lex, lex_byte, operator, space, other, comma, colon, string_token, Place, after_value, begins_colon, place_token, punctuate}
use Rattle.json.specs.Json as json
use Rattle.json.specs.Word.{ends_word, is_operator, is_space, word}
use Rattle.json.proofs.Printed.Numbers.{in_word-ended, lex-number}
use Rattle.json.proofs.Printed.Decimals.{IsNumber-decimal}
use Rattle.koth_json.specs.{Keys.{key_text}, Objects.{Field, Value, field_text, further_field, further_text, object_line, value_text}, Strings.{byte_text, mended, string_text}}

-- what stands for a byte is read as that byte, before any text
abbrev Reads : ℕ → Type 0
Reads b = (rest : List ℕ) → content plain (byte_text b ++ rest) ≡ prepend (b ∷ []) (content plain rest)

abbrev is_some_of : ℕ → Option ℕ → Bool
is_some_of b None = false
is_some_of b (Some u) = u == b

some_of : (b : ℕ) (o : Option ℕ) → is_some_of b o ≡ true → o ≡ Some b
some_of b None h = absurd (false≢true h)
some_of b (Some u) h = ap Some (eqb-true u b h)

-- the four digits of a control character
digits_spell : (b : ℕ) → b < 128 → code_unit 48 48 (digit_char (b / 16)) (digit_char (b % 16)) ≡ Some b
unfolding code_unit
digits_spell b small =
    some_of b (code_unit 48 48 (digit_char (b / 16)) (digit_char (b % 16)))
    (agree_below_at (λ n. is_some_of n (code_unit 48 48 (digit_char (n / 16)) (digit_char (n % 16)))) (λ n. true) 128 b refl small)

control : (b : ℕ) (rest : List ℕ) → b < 128
    → content plain (92 ∷ 117 ∷ 48 ∷ 48 ∷ digit_char (b / 16) ∷ digit_char (b % 16) ∷ rest) ≡ prepend (b ∷ []) (content plain rest)
unfolding content encode_utf8
control b rest small =
    let high : is_high_surrogate b ≡ false = agree_below_at is_high_surrogate (λ n. false) 128 b refl small in
    let low : is_low_surrogate b ≡ false = agree_below_at is_low_surrogate (λ n. false) 128 b refl small in
    rw (digits_spell b small, high, low, lt-ltb b 128 small)

quote_reads : Reads 34
unfolding content short_escape
quote_reads rest = refl

backslash_reads : Reads 92
unfolding content short_escape
backslash_reads rest = refl

delete_reads : Reads 127
delete_reads rest = control 127 rest (omega arith)

control_reads : (b : ℕ) → (b ≡ 34 → ⊥) → (b ≡ 92 → ⊥) → b < 32 → Reads b
control_reads b q s small rest = rw (ne_eqb b 34 q, ne_eqb b 92 s, lt-ltb b 32 small) (control b rest (omega arith))

plain_reads : (b : ℕ) → (b ≡ 34 → ⊥) → (b ≡ 92 → ⊥) → 32 ≤ b → (b ≡ 127 → ⊥) → Reads b
unfolding content
plain_reads b q s large d rest =
    let same : byte_text b ≡ b ∷ [] = rw (ne_eqb b 34 q, ne_eqb b 92 s, le-ltb b 32 large, ne_eqb b 127 d) in
    let read : content plain (b ∷ rest) ≡ prepend (b ∷ []) (content plain rest) = rw (ne_eqb b 34 q, ne_eqb b 92 s, le-ltb b 32 large) in
    ap (λ l. content plain (l ++ rest)) same ∙ read

byte_reads : (b : ℕ) → Reads b
byte_reads b = go (cases_eq b 34) (cases_eq b 92) (cases_lt b 32) (cases_eq b 127)
  where
    go : (b ≡ 34) ⊎ (b ≡ 34 → ⊥) → (b ≡ 92) ⊎ (b ≡ 92 → ⊥) → (b < 32) ⊎ (32 ≤ b) → (b ≡ 127) ⊎ (b ≡ 127 → ⊥) → Reads b
    go (inl e) second third fourth = subst Reads (sym e) quote_reads
    go (inr q) (inl e) third fourth = subst Reads (sym e) backslash_reads
    go (inr q) (inr s) (inl small) fourth = control_reads b q s small
    go (inr q) (inr s) (inr large) (inl e) = subst Reads (sym e) delete_reads
    go (inr q) (inr s) (inr large) (inr d) = plain_reads b q s large d

-- bytes, up to the quotation mark after them
pub string-reads_back : (bytes rest : List ℕ) → content plain (flat_map byte_text bytes ++ 34 ∷ rest) ≡ Some bytes
unfolding content
string-reads_back [] rest = refl
string-reads_back (b ∷ bytes) rest =
    ap (content plain) (append_assoc (byte_text b) (flat_map byte_text bytes) (34 ∷ rest)) ∙ byte_reads b (flat_map byte_text bytes ++ 34 ∷ rest) ∙ ap (prepend (b ∷ [])) (string-reads_back bytes rest)

-- ---- the lexer passes over a string

inside : (x : ℕ) (xs : List ℕ) → (x == 34) ≡ false → (x == 92) ≡ false → lex in_string (x ∷ xs) ≡ lex in_string xs
unfolding lex
inside x xs q s = rw (q, s) (stays (is_operator x) (is_space x))
  where
    stays : (o p : Bool) → lex_byte in_string (cond o operator (cond p space other)) x xs (λ m. lex m xs) ≡ lex in_string xs
    stays true p = refl
    stays false true = refl
    stays false false = refl

abbrev Passes : ℕ → Type 0
Passes b = (rest : List ℕ) → lex in_string (byte_text b ++ rest) ≡ lex in_string rest

control_passes : (b : ℕ) (rest : List ℕ) → b < 128
    → lex in_string (92 ∷ 117 ∷ 48 ∷ 48 ∷ digit_char (b / 16) ∷ digit_char (b % 16) ∷ rest) ≡ lex in_string rest
unfolding lex
control_passes b rest small =
    inside (digit_char (b / 16)) (digit_char (b % 16) ∷ rest) (agree_below_at (λ n. digit_char (n / 16) == 34) (λ n. false) 128 b refl small) (agree_below_at (λ n. digit_char (n / 16) == 92) (λ n. false) 128 b refl small)
    ∙ inside (digit_char (b % 16)) rest (agree_below_at (λ n. digit_char (n % 16) == 34) (λ n. false) 128 b refl small) (agree_below_at (λ n. digit_char (n % 16) == 92) (λ n. false) 128 b refl small)

quote_passes : Passes 34
unfolding lex
quote_passes rest = refl

backslash_passes : Passes 92
unfolding lex
backslash_passes rest = refl

byte_passes : (b : ℕ) → Passes b
byte_passes b = go (cases_eq b 34) (cases_eq b 92) (cases_lt b 32) (cases_eq b 127)
  where
    go : (b ≡ 34) ⊎ (b ≡ 34 → ⊥) → (b ≡ 92) ⊎ (b ≡ 92 → ⊥) → (b < 32) ⊎ (32 ≤ b) → (b ≡ 127) ⊎ (b ≡ 127 → ⊥) → Passes b
    go (inl e) second third fourth = subst Passes (sym e) quote_passes
    go (inr q) (inl e) third fourth = subst Passes (sym e) backslash_passes
    go (inr q) (inr s) (inl small) fourth = λ rest. rw (ne_eqb b 34 q, ne_eqb b 92 s, lt-ltb b 32 small) (control_passes b rest (omega arith))
    go (inr q) (inr s) (inr large) (inl e) = subst Passes (sym e) (λ rest. control_passes 127 rest (omega arith))
    go (inr q) (inr s) (inr large) (inr d) = λ rest.
        let same : byte_text b ≡ b ∷ [] = rw (ne_eqb b 34 q, ne_eqb b 92 s, le-ltb b 32 large, ne_eqb b 127 d) in
        ap (λ l. lex in_string (l ++ rest)) same ∙ inside b rest (ne_eqb b 34 q) (ne_eqb b 92 s)

string_passes : (bytes rest : List ℕ) → lex in_string (flat_map byte_text bytes ++ 34 ∷ rest) ≡ lex between rest
unfolding lex
string_passes [] rest = refl
string_passes (b ∷ bytes) rest =
    ap (lex in_string) (append_assoc (byte_text b) (flat_map byte_text bytes) (34 ∷ rest)) ∙ byte_passes b (flat_map byte_text bytes ++ 34 ∷ rest) ∙ string_passes bytes rest

lex_string : (bytes rest : List ℕ) → lex between (string_text bytes ++ rest) ≡ Lexeme.token (token.string (mended bytes)) ∷ lex between rest
unfolding lex
lex_string bytes rest =
    let text = flat_map byte_text (mended bytes) in
    ap (λ l. lex between (34 ∷ l)) (append_assoc text (34 ∷ []) rest)
    ∙ (λ i. Lexeme.token (string_token (string-reads_back (mended bytes) rest i)) ∷ string_passes (mended bytes) rest i)

-- ---- the lexemes of an object

-- a number of 64 bits at most
abbrev pub Fits : Value → Type 0
Fits (Value.text bytes) = Unit {0}
Fits (Value.number n) = n < 2 ^ 64
Fits (Value.truth b) = Unit {0}
Fits Value.null = Unit {0}

abbrev pub AllFit : List Field → Type 0
AllFit [] = Unit {0}
AllFit (f ∷ fs) = Fits f.1 × AllFit fs

abbrev token_of : Value → token.Token
token_of (Value.text bytes) = token.string (mended bytes)
token_of (Value.number n) = token.number (decimal n)
token_of (Value.truth b) = token.boolean b
token_of Value.null = token.null

abbrev name_of : Field → List ℕ
name_of f = mended (key_text f.0)

lex_value : (v : Value) (rest : List ℕ) → Fits v → ends_word rest ≡ true → lex between (value_text v ++ rest) ≡ Lexeme.token (token_of v) ∷ lex between rest
unfolding lex word
lex_value (Value.text bytes) rest fits ended = lex_string bytes rest
lex_value (Value.number n) rest fits ended = lex-number (decimal n) rest (IsNumber-decimal n fits) ended
lex_value (Value.truth true) rest fits ended = λ i. Lexeme.token (cond (ended i) (token.boolean true) token.bad) ∷ in_word-ended rest ended i
lex_value (Value.truth false) rest fits ended = λ i. Lexeme.token (cond (ended i) (token.boolean false) token.bad) ∷ in_word-ended rest ended i
lex_value Value.null rest fits ended = λ i. Lexeme.token (cond (ended i) token.null token.bad) ∷ in_word-ended rest ended i

lex_field : (f : Field) (rest : List ℕ) → Fits f.1 → ends_word rest ≡ true
    → lex between (field_text f ++ rest) ≡ Lexeme.token (token.string (name_of f)) ∷ colon ∷ Lexeme.token (token_of f.1) ∷ lex between rest
unfolding field_text lex
lex_field f rest fits ended =
    ap (lex between) (append_assoc (string_text (key_text f.0)) (codes ":" ++ value_text f.1) rest) ∙ lex_string (key_text f.0) (58 ∷ (value_text f.1 ++ rest))
    ∙ ap (λ l. Lexeme.token (token.string (name_of f)) ∷ colon ∷ l) (lex_value f.1 rest fits ended)

ends : (fs : List Field) (tail : List ℕ) → ends_word (further_text fs ++ 125 ∷ tail) ≡ true
unfolding further_field
ends [] tail = refl
ends (f ∷ fs) tail = refl

abbrev field_lexemes : List Field → List Lexeme
field_lexemes [] = Lexeme.token token.end_object ∷ []
field_lexemes (f ∷ fs) = comma ∷ Lexeme.token (token.string (name_of f)) ∷ colon ∷ Lexeme.token (token_of f.1) ∷ field_lexemes fs

lex_further : (fs : List Field) → AllFit fs → lex between (further_text fs ++ codes "}\n") ≡ field_lexemes fs
unfolding further_field lex
lex_further [] fit = refl
lex_further (f ∷ fs) fit =
    let rest = further_text fs ++ codes "}\n" in
    ap (lex between) (append_assoc (further_field f) (further_text fs) (codes "}\n"))
    ∙ ap (λ l. comma ∷ l) (lex_field f rest fit.0 (ends fs (codes "\n")))
    ∙ ap (λ l. comma ∷ Lexeme.token (token.string (name_of f)) ∷ colon ∷ Lexeme.token (token_of f.1) ∷ l) (lex_further fs fit.1)

lex_object : (f : Field) (fs : List Field) → Fits f.1 → AllFit fs
    → lex between (object_line f fs)
    ≡ Lexeme.token token.begin_object ∷ Lexeme.token (token.string (name_of f)) ∷ colon ∷ Lexeme.token (token_of f.1) ∷ field_lexemes fs
unfolding lex
lex_object f fs fits fit =
    ap (λ l. Lexeme.token token.begin_object ∷ l) (lex_field f (further_text fs ++ codes "}\n") fits (ends fs (codes "\n"))
    ∙ ap (λ l. Lexeme.token (token.string (name_of f)) ∷ colon ∷ Lexeme.token (token_of f.1) ∷ l) (lex_further fs fit))

-- ---- its tokens

abbrev field_tokens : List Field → List token.Token
field_tokens [] = token.end_object ∷ []
field_tokens (f ∷ fs) = token.key (name_of f) ∷ token_of f.1 ∷ field_tokens fs

no_colon : (fs : List Field) → begins_colon (field_lexemes fs) ≡ false
no_colon [] = refl
no_colon (f ∷ fs) = refl

place_value : (v : Value) (ls : List Lexeme) → begins_colon ls ≡ false → punctuate Place.fresh (Lexeme.token (token_of v) ∷ ls) ≡ token_of v ∷ punctuate after_value ls
unfolding punctuate
place_value (Value.text bytes) ls none = ap (λ b. place_token Place.fresh (token.string (mended bytes)) b (λ next. punctuate next ls)) none
place_value (Value.number n) ls none = refl
place_value (Value.truth b) ls none = refl
place_value Value.null ls none = refl

punctuate_further : (fs : List Field) → punctuate after_value (field_lexemes fs) ≡ field_tokens fs
unfolding punctuate
punctuate_further [] = refl
punctuate_further (f ∷ fs) =
    ap (λ l. token.key (name_of f) ∷ l) (place_value f.1 (field_lexemes fs) (no_colon fs) ∙ ap (λ l. token_of f.1 ∷ l) (punctuate_further fs))

punctuate_object : (f : Field) (fs : List Field)
    → punctuate Place.fresh (Lexeme.token token.begin_object ∷ Lexeme.token (token.string (name_of f)) ∷ colon ∷ Lexeme.token (token_of f.1) ∷ field_lexemes fs)
    ≡ token.begin_object ∷ field_tokens (f ∷ fs)
unfolding punctuate
punctuate_object f fs =
    ap (λ l. token.begin_object ∷ token.key (name_of f) ∷ l) (place_value f.1 (field_lexemes fs) (no_colon fs) ∙ ap (λ l. token_of f.1 ∷ l) (punctuate_further fs))

-- ---- its value

abbrev pub json_value : Value → json.Json
json_value (Value.text bytes) = json.string (mended bytes)
json_value (Value.number n) = json.number (decimal n)
json_value (Value.truth b) = json.boolean b
json_value Value.null = json.null

abbrev pub members_of : List Field → json.Members
members_of [] = json.no_members
members_of (f ∷ fs) = json.member (mended (key_text f.0)) (json_value f.1) (members_of fs)

value_read : (d : ℕ) (v : Value) (ts : List token.Token) → json.value (suc d) (token_of v ∷ ts) ≡ Some (json_value v, ts)
unfolding json.value
value_read d (Value.text bytes) ts = refl
value_read d (Value.number n) ts = refl
value_read d (Value.truth b) ts = refl
value_read d Value.null ts = refl

members_read : (n d : ℕ) (fs : List Field) → length fs < n → json.members (json.value (suc d)) n (field_tokens fs) ≡ Some (members_of fs, [])
unfolding json.members
members_read zero d fs below = absurd (omega arith)
members_read (suc n) d [] below = refl
members_read (suc n) d (f ∷ fs) below =
    ap (option_and_then (λ p. json.parse_map (json.member (name_of f) p.0) (json.members (json.value (suc d)) n p.1))) (value_read d f.1 (field_tokens fs))
    ∙ ap (json.parse_map (json.member (name_of f) (json_value f.1))) (members_read n d fs (omega arith))

long : (fs : List Field) → length fs < length (field_tokens fs)
long [] = omega arith
long (f ∷ fs) = omega (arith, long fs)

object_read : (fs : List Field) → json.value 128 (token.begin_object ∷ field_tokens fs) ≡ Some (json.object (members_of fs), [])
unfolding json.value
object_read fs = ap (json.parse_map json.object) (members_read (length (field_tokens fs)) 126 fs (long fs))

-- a line is the object of its fields: of strings, which are UTF-8, of numbers, and of true, false and null
pub line-reads_back : (f : Field) (fs : List Field) → Fits f.1 → AllFit fs → json.document (object_line f fs) ≡ Some (json.object (members_of (f ∷ fs)))
line-reads_back f fs fits fit =
    ap (λ ls. option_and_then (λ p. json.if_last p.0 p.1) (json.value 128 (punctuate Place.fresh ls))) (lex_object f fs fits fit)
    ∙ ap (λ ts. option_and_then (λ p. json.if_last p.0 p.1) (json.value 128 ts)) (punctuate_object f fs)
    ∙ ap (option_and_then (λ p. json.if_last p.0 p.1)) (object_read (f ∷ fs))
