-- The numbers and the operands of the load text, as they are read.
use Rattle.std.proofs.Common.{◌≡◌, ℕ, zero, suc, ◌-◌, ◌*◌, ◌^◌, ◌≤◌, ◌<◌, false, List, [], ◌∷◌, ◌++◌, length, Option, Ok, ℤ, pos, neg_ℤ, refl, inl, inr, arith}
use Rattle.std.proofs.Common.{nat_lt, if◌then◌else◌, rules, ne_eqb, lt-ltb, le-ltb, append_assoc, codes}
use Rattle.std.proofs.{Math.Nat.mod-eq_of_lt, lemmas.Bool.cases_lt, lemmas.Bool.Decides.nat_tests, lemmas.Str.Parse.{IsNumeralModel, numerals_by_fold}}
use Rattle.std.proofs.lemmas.Fmt.{digits_decimal, digits_value-decimal, decimal_nonempty, length-decimal-le}
use Rattle.{war_types.specs.declared.instr.Mode.Mode, redcode_text.specs.{Bytes.is_digit, Tokens.{Piece, piece}, Value.{number_from, value_of, value_within}}}
use Rattle.{std.specs.{Fmt.decimal, List.{AllByRecursion, take_while}}, redcode_text.specs.{Vocabulary.mode_text, declared.token.TokenKind.TokenKind}}
use Rattle.redcode_statement.specs.{Instruction.reduced, Sides.is_comma, InstrLine.{spaces, signed_number, operand_text}}
use Rattle.redcode_statement.proofs.{LineLemmas.AreInLine, TokenLemmas.{bare, IsDigitByte, Follows, bare-spaces, bare-digits, bare-mode, bare-minus}}

-- ---- numbers

-- a token that parts nothing
abbrev pub IsInside : Piece → Type 0
IsInside token = is_comma token ≡ false

-- a short text in one line whose tokens stand for a number
pub record Spells (text : List ℕ) (tokens : List Piece) (z : ℤ) : Type 0 where
  pub cut : (rest : List ℕ) → take_while is_digit rest ≡ [] → bare (text ++ rest) ≡ tokens ++ bare rest
  pub inside : AllByRecursion IsInside tokens
  pub value : (names : List ℕ → Option ℤ) → value_of names tokens ≡ Ok z
  pub follows : Follows text
  pub in_line : AreInLine text
  pub short : length text ≤ 6

abbrev pub number_token : List ℕ → Piece
number_token digits = piece TokenKind.Number digits

abbrev minus : Piece
minus = piece TokenKind.Symbol (codes "-")

in_line-digits : (ds : List ℕ) → AllByRecursion IsDigitByte ds → AreInLine ds
in_line-digits [] all = refl
in_line-digits (d ∷ ds) all = rw (ne_eqb d 10 (λ e. omega (arith, all.0))) (in_line-digits ds all.1)

-- few digits, alone and after a minus sign
Spells-digits : (ds : List ℕ) (n : ℕ) → AllByRecursion IsDigitByte ds → 0 < length ds → number_from 0 ds ≡ n → n < 65536 → length ds ≤ 5
    → Spells ds (number_token ds ∷ []) (pos n) × Spells (45 ∷ ds) (minus ∷ number_token ds ∷ []) (neg_ℤ (pos n))
unfolding value_within
Spells-digits [] n bytes some value small short = absurd (omega arith)
Spells-digits (d ∷ ds) n bytes some value small short =
    let inside : IsInside (number_token (d ∷ ds)) = rw (ne_eqb d 44 (λ e. omega (arith, bytes.0))) refl in
    let follows : Follows (d ∷ ds) = ne_eqb d 61 (λ e. omega (arith, bytes.0)) in
    let in_line = in_line-digits (d ∷ ds) bytes in (
      record {
        cut = λ rest stops. bare-digits d ds rest bytes stops;
        inside = (inside, tt);
        value = λ names. rw (value, lt-ltb n (2 ^ 63) (omega arith)) refl;
        follows = follows;
        in_line = in_line;
        short = omega arith;
      },
      record {
        cut = λ rest stops. rw (bare-minus (d ∷ (ds ++ rest)) follows, bare-digits d ds rest bytes stops) refl;
        inside = (refl, (inside, tt));
        value = λ names. rw (value, lt-ltb n (2 ^ 63) (omega arith)) (grind (arith, nat_tests));
        follows = refl;
        in_line = in_line;
        short = omega arith;
      },
    )

-- a number below 65,536 in decimal, alone and after a minus sign
pub Spells-decimal : (n : ℕ) → n < 65536
    → Spells (decimal n) (number_token (decimal n) ∷ []) (pos n) × Spells (45 ∷ decimal n) (minus ∷ number_token (decimal n) ∷ []) (neg_ℤ (pos n))
Spells-decimal n small =
    let numerals : IsNumeralModel (AllByRecursion IsDigitByte) (number_from 0) = numerals_by_fold _ (search rules) number_from (search rules) in
    Spells-digits (decimal n) n (digits_decimal numerals n (omega arith)) (decimal_nonempty n (omega arith)) (digits_value-decimal numerals n (omega arith))
    small (length-decimal-le 5 n (omega arith) (omega arith) (omega arith))

-- the number that the load text gives for an address, and its tokens
abbrev pub number_of : ℕ → ℕ → ℤ
number_of core n = if nat_lt core (2 * n) then neg_ℤ (pos (core - n)) else pos n

abbrev pub number_tokens : ℕ → ℕ → List Piece
number_tokens core n = if nat_lt core (2 * n) then minus ∷ number_token (decimal (core - n)) ∷ [] else number_token (decimal n) ∷ []

pub Spells-signed : (core n : ℕ) → n < core → core ≤ 65535 → Spells (signed_number core n) (number_tokens core n) (number_of core n)
Spells-signed core n below most =
    elim (cases_lt core (2 * n)) [
      | inl lt ↦ rw (lt-ltb core (2 * n) lt) (Spells-decimal (core - n) (omega arith)).1
      | inr le ↦ rw (le-ltb core (2 * n) le) (Spells-decimal n (omega arith)).0
    ]

-- the number is the address that it was written for
pub reduced-number : (core n : ℕ) → n < core → reduced core (number_of core n) ≡ n
reduced-number core n below = grind (arith, nat_tests, mod-eq_of_lt)

-- ---- operands

-- the tokens of an operand of the load text
abbrev pub operand_tokens : ℕ → Mode → ℕ → List Piece
operand_tokens core mode n = piece TokenKind.Symbol (mode_text mode) ∷ number_tokens core n

Follows-number : (k : ℕ) (text rest : List ℕ) → Follows text → Follows (spaces k ++ (text ++ rest))
Follows-number zero [] rest h = absurd h
Follows-number zero (c ∷ cs) rest h = h
Follows-number (suc k) text rest h = refl

pub in_line-spaces : (k : ℕ) → AreInLine (spaces k)
in_line-spaces zero = refl
in_line-spaces (suc k) = in_line-spaces k

-- an operand's text gives its tokens
pub bare-operand : (core : ℕ) (mode : Mode) (n : ℕ) (rest : List ℕ) → n < core → core ≤ 65535 → take_while is_digit rest ≡ []
    → bare (operand_text core mode n ++ rest) ≡ operand_tokens core mode n ++ bare rest
bare-operand core mode n rest below most stops =
    let text = signed_number core n in
    let spelled = Spells-signed core n below most in
    let blanks = spaces (6 - length text) in
    let follows = Follows-number (6 - length text) text rest spelled.follows in
    simp append_assoc (rw (bare-mode mode (blanks ++ (text ++ rest)) follows, bare-spaces (6 - length text) (text ++ rest), spelled.cut rest stops) refl)
