-- What the kind of a text says of its bytes.
use Rattle.{std.proofs.Common.{◌≡◌, ℕ, true, false, List, [], ◌∷◌, refl, sym, arith}, std.specs.{Prelude.{◌==◌, if◌then◌else◌}, List.list_all}, std.proofs.lemmas.Bool.Decides.nat_tests}
use Rattle.{war_types.specs.Title.is_blank, redcode_text.specs.{Bytes.{is_digit, is_letter, is_name_byte, is_symbol, are_symbol}, declared.token.TokenKind.TokenKind, Tokens.is_of_kind}}

-- a text of a kind begins with no blank
pub not_blank : (kind : TokenKind) (b : ℕ) (bs : List ℕ) → is_of_kind kind (b ∷ bs) ≡ true → is_blank b ≡ false
not_blank kind b bs h = grind (arith, nat_tests)

-- a text has one kind
kind_once : (k l : TokenKind) (b : ℕ) (bs : List ℕ) → (k ≡ TokenKind.Symbol → ⊥) → is_of_kind k (b ∷ bs) ≡ true → is_of_kind l (b ∷ bs) ≡ true → k ≡ l
kind_once TokenKind.Symbol l b bs other p q = absurd (other refl)
kind_once k l b bs other p q = grind (arith, nat_tests)

pub same_kind : (k l : TokenKind) (text : List ℕ) → is_of_kind k text ≡ true → is_of_kind l text ≡ true → k ≡ l
same_kind k l [] p q = absurd cc
same_kind TokenKind.Symbol TokenKind.Symbol (b ∷ bs) p q = refl
same_kind TokenKind.Symbol l (b ∷ bs) p q = sym (kind_once l TokenKind.Symbol b bs (λ e. cc) q p)
same_kind k l (b ∷ bs) p q = kind_once k l b bs (λ e. cc) p q

-- a name goes on with no byte that no name has, nor a number with one that is no digit
pub name_longest : (kind : TokenKind) (b : ℕ) (bs : List ℕ) → is_letter b ≡ true → list_all is_name_byte bs ≡ false → is_of_kind kind (b ∷ bs) ≡ false
name_longest kind b bs letter long = grind (arith, nat_tests)

pub number_longest : (kind : TokenKind) (b : ℕ) (bs : List ℕ) → is_letter b ≡ false → is_digit b ≡ true → list_all is_digit bs ≡ false → is_of_kind kind (b ∷ bs) ≡ false
number_longest kind b bs letter digit long = grind (arith, nat_tests)

-- a text of two bytes that are no symbol has no kind that their first allows
pub two_bytes : (kind : TokenKind) (b c : ℕ) (more : List ℕ) → is_letter b ≡ false → is_digit b ≡ false → (b == 59) ≡ false → are_symbol b c ≡ false → is_of_kind kind (b ∷ c ∷ more) ≡ false
two_bytes kind b c more letter digit semicolon none = grind (arith, nat_tests)

pub three_bytes : (kind : TokenKind) (b c d : ℕ) (more : List ℕ) → is_letter b ≡ false → is_digit b ≡ false → (b == 59) ≡ false → is_of_kind kind (b ∷ c ∷ d ∷ more) ≡ false
three_bytes kind b c d more letter digit semicolon = grind (arith, nat_tests)

-- one byte that begins no longer symbol
pub kind_of_byte : (b : ℕ) → is_blank b ≡ false → is_letter b ≡ false → is_digit b ≡ false → (b == 59) ≡ false → is_of_kind (if is_symbol b then TokenKind.Symbol else TokenKind.Bad) (b ∷ []) ≡ true
kind_of_byte b blank letter digit semicolon = grind (arith, nat_tests)
