-- The scanner's tokens are the tokens of the line.
use Rattle.std.proofs.Common.{◌≡◌, ℕ, zero, suc, ◌+◌, ◌-◌, Bool, true, false, ◌||◌, List, [], ◌∷◌, ◌++◌, length, take, drop, refl, sym, ap, ◌∙◌, inl, inr, arith, length-take, length-drop}
use Rattle.{std.proofs.Common.take-append-drop, std.specs.{Prelude.{◌==◌, if◌then◌else◌}, List.{list_all, take_while}}, std.proofs.{lemmas.Bool.{and_from, cases_Bool}, lemmas.List.drop_all}}
use Rattle.{std.proofs.lemmas.List.Sums.take_while-cons, war_types.specs.Title.is_blank, redcode_text.specs.Bytes.{is_digit, is_letter, is_name_byte, is_symbol, are_symbol}}
use Rattle.redcode_text.specs.{declared.token.TokenKind.TokenKind, Tokens.{ScannedPiece, AreTokensFrom, IsTokensOf, is_of_kind, begins_symbol, kind_at, rest_of_token, tokens_after, tokens_of}}
use Rattle.redcode_text.proofs.TextKinds.{kind_of_byte, name_longest, number_longest, three_bytes, two_bytes}

-- how many bytes go on a name or a number
counted : (p : ℕ → Bool) (x : ℕ) (xs : List ℕ) → length (take_while p (x ∷ xs)) ≡ if p x then suc (length (take_while p xs)) else 0
counted p x xs = ap length (take_while-cons p x xs) ∙ elim (cases_Bool (p x)) [
  | inl passes ↦ rw passes
  | inr fails ↦ rw fails
]

-- they pass
passing : (p : ℕ → Bool) (xs : List ℕ) → list_all p (take (length (take_while p xs)) xs) ≡ true
passing p [] = refl
passing p (x ∷ xs) = rw (counted p x xs) (elim (cases_Bool (p x)) [
  | inl passes ↦ rw (passes, passes) (passing p xs)
  | inr fails ↦ rw fails
])

-- and with a byte more they don't
too_long : (p : ℕ → Bool) (xs : List ℕ) (c : ℕ) (more rest : List ℕ) → drop (length (take_while p xs)) xs ≡ c ∷ (more ++ rest) → list_all p (take (length (take_while p xs)) xs ++ c ∷ more) ≡ false
too_long p [] c more rest e = absurd cc
too_long p (x ∷ xs) c more rest e = let e' = rw (counted p x xs) at e in rw (counted p x xs) (elim (cases_Bool (p x)) [
  | inl passes ↦ rw (passes, passes) (too_long p xs c more rest (rw passes at e'))
  | inr fails ↦
      let e'' = rw fails at e' in
      let same : x ≡ c = cc in
      rw (fails, ← same, fails)
])

-- the first byte and the n bytes after it are a token of the kind, and none could be longer
abbrev pub Fits : ℕ → List ℕ → TokenKind → ℕ → Type 0
Fits b bs kind n = (is_of_kind kind (b ∷ take n bs) ≡ true) × ((other : TokenKind) (c : ℕ) (more rest : List ℕ) → drop n bs ≡ c ∷ (more ++ rest) → is_of_kind other (b ∷ (take n bs ++ c ∷ more)) ≡ false)

symbol_fits : (b : ℕ) (bs : List ℕ) → is_blank b ≡ false → is_letter b ≡ false → is_digit b ≡ false → (b == 59) ≡ false
    → Fits b bs (if begins_symbol b bs || is_symbol b then TokenKind.Symbol else TokenKind.Bad) (if begins_symbol b bs then 1 else 0)
symbol_fits b [] blank letter digit semicolon = (kind_of_byte b blank letter digit semicolon, λ other c more rest e. absurd cc)
symbol_fits b (x ∷ xs) blank letter digit semicolon = elim (cases_Bool (are_symbol b x)) [
  | inl two ↦ rw two (two, λ other c more rest e. three_bytes other b x c more letter digit semicolon)
  | inr one ↦
      rw one (
        kind_of_byte b blank letter digit semicolon,
        λ other c more rest e. let same : x ≡ c = cc in two_bytes other b c more letter digit semicolon (rw same at one),
      )
]

token_fits : (b : ℕ) (bs : List ℕ) → is_blank b ≡ false → Fits b bs (kind_at b bs) (rest_of_token b bs)
token_fits b bs blank = elim (cases_Bool (is_letter b)) [
  | inl letter ↦ rw letter (rw (letter, passing is_name_byte bs) refl, λ other c more rest e. name_longest other b _ letter (too_long is_name_byte bs c more rest e))
  | inr no_letter ↦ elim (cases_Bool (is_digit b)) [
    | inl digit ↦ rw (no_letter, digit) (rw (digit, passing is_digit bs) refl, λ other c more rest e. number_longest other b _ no_letter digit (too_long is_digit bs c more rest e))
    | inr no_digit ↦ elim (cases_Bool (b == 59)) [
      | inl semicolon ↦ rw (no_letter, no_digit, semicolon) (semicolon, λ other c more rest e. let nothing : drop (length bs) bs ≡ [] = drop_all (length bs) bs (omega arith) in absurd cc)
      | inr more ↦ rw (no_letter, no_digit, more) (symbol_fits b bs blank no_letter no_digit more)
    ]
  ]
]

-- a blank before a line
with_blank : (place b : ℕ) (line : List ℕ) (tokens : List ScannedPiece) → is_blank b ≡ true → AreTokensFrom (suc place) line tokens → AreTokensFrom place (b ∷ line) tokens
with_blank place b line [] h all = and_from (is_blank b) (list_all is_blank line) h all
with_blank place b line (p ∷ ps) h (behind, (first, others)) = (
  behind,
  (
    record {
      blanks = b ∷ first.blanks;
      are_blank = and_from (is_blank b) (list_all is_blank first.blanks) h first.are_blank;
      together = ap (λ bs. b ∷ bs) first.together;
      at = omega (arith, first.at);
      kind = first.kind;
      longest = first.longest;
    },
    others,
  ),
)

pub are_tokens_after : (bytes skip : ℕ) (line : List ℕ) (place : ℕ) → place + length (drop skip line) ≡ bytes → AreTokensFrom place (drop skip line) (tokens_after bytes skip line)
are_tokens_after bytes zero [] place e = refl
are_tokens_after bytes (suc skip) [] place e = refl
are_tokens_after bytes (suc skip) (b ∷ bs) place e = are_tokens_after bytes skip bs place e
are_tokens_after bytes zero (b ∷ bs) place e = elim (cases_Bool (is_blank b)) [
  | inl blank ↦ rw blank (with_blank place b bs (tokens_after bytes 0 bs) blank (are_tokens_after bytes 0 bs (suc place) (omega arith)))
  | inr other ↦
      let n = rest_of_token b bs in
      rw other (
        drop n bs,
        (
          record {
            blanks = [];
            are_blank = refl;
            together = ap (λ xs. b ∷ xs) (sym (take-append-drop n bs));
            at = omega arith;
            kind = (token_fits b bs other).0;
            longest = (token_fits b bs other).1;
          },
          are_tokens_after bytes n bs (bytes - length (b ∷ bs) + length (b ∷ take n bs)) (omega (arith, length-take n bs, length-drop n bs)),
        ),
      )
]

pub are_tokens_of : (line : List ℕ) → IsTokensOf line (tokens_of line)
are_tokens_of line = are_tokens_after (length line) 0 line 0 (omega arith)
