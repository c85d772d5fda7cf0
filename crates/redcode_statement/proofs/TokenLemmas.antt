-- The tokens of a text, one after another.
use Rattle.std.proofs.Common.{◌≡◌, ℕ, zero, suc, ◌==◌, true, false, List, [], ◌∷◌, ◌++◌, length, map, refl, ◌∙◌, arith, take_at, drop_at, codes}
use Rattle.{std.specs.{List.{AllByRecursion, take_while}, Int.IsInRange}, std.proofs.{lemmas.Bool.Decides.nat_tests, lemmas.List.Sums.take_while-cons}}
use Rattle.{war_types.specs.{Title.is_blank, declared.instr.Mode.Mode}, redcode_text.specs.{Bytes.{is_digit, is_letter}, Tokens.{Piece, piece, without_place, rest_of_token, tokens_after, pieces_of}}}
use Rattle.{redcode_text.specs.{Vocabulary.mode_text, declared.token.TokenKind.TokenKind}, redcode_text.proofs.Scanning.tokens_after-drop, redcode_statement.specs.InstrLine.spaces}

-- the tokens of a text without their places
abbrev pub bare : List ℕ → List Piece
bare text = map without_place (tokens_after 0 0 text)

-- places apart, tokens are the same whatever stands before them
placeless : (m n skip : ℕ) (bs : List ℕ) → map without_place (tokens_after m skip bs) ≡ map without_place (tokens_after n skip bs)
placeless m n skip [] = refl
placeless m n (suc skip) (b ∷ bs) = placeless m n skip bs
placeless m n zero (b ∷ bs) = grind (arith, placeless m n 0 bs, placeless m n (rest_of_token b bs) bs)

pub bare-is : (line : List ℕ) → pieces_of line ≡ bare line
bare-is line = placeless (length line) 0 0 line

-- spaces give no token
pub bare-spaces : (k : ℕ) (rest : List ℕ) → bare (spaces k ++ rest) ≡ bare rest
bare-spaces zero rest = refl
bare-spaces (suc k) rest = bare-spaces k rest

-- ---- digits

abbrev pub IsDigitByte : ℕ → Type 0
IsDigitByte b = IsInRange 48 57 b

digit-kinds : (b : ℕ) → IsDigitByte b → (is_digit b ≡ true) × (is_letter b ≡ false) × (is_blank b ≡ false)
digit-kinds b h = (grind (arith, nat_tests), grind (arith, nat_tests), grind (arith, nat_tests))

-- the digits in front, if no further one follows
take_while-digits : (ds rest : List ℕ) → AllByRecursion IsDigitByte ds → take_while is_digit rest ≡ [] → take_while is_digit (ds ++ rest) ≡ ds
take_while-digits [] rest all stops = stops
take_while-digits (d ∷ ds) rest all stops =
    take_while-cons is_digit d (ds ++ rest) ∙ rw ((digit-kinds d all.0).0, take_while-digits ds rest all.1 stops) refl

-- digits that no further one follows are one token
pub bare-digits : (d : ℕ) (ds rest : List ℕ) → AllByRecursion IsDigitByte (d ∷ ds) → take_while is_digit rest ≡ []
    → bare (d ∷ (ds ++ rest)) ≡ piece TokenKind.Number (d ∷ ds) ∷ bare rest
bare-digits d ds rest all stops =
    rw (
      (digit-kinds d all.0).2,
      (digit-kinds d all.0).1,
      (digit-kinds d all.0).0,
      take_while-digits ds rest all.1 stops,
      take_at ds rest (length ds) refl,
      tokens_after-drop 0 (length ds) (ds ++ rest),
      drop_at ds rest (length ds) refl,
    ) refl

-- ---- symbols

-- a text that begins with no equals sign
abbrev pub Follows : List ℕ → Type 0
Follows [] = ⊥
Follows (c ∷ cs) = (c == 61) ≡ false

-- before such a text a mode is a token of its own
pub bare-mode : (mode : Mode) (text : List ℕ) → Follows text → bare (mode_text mode ++ text) ≡ piece TokenKind.Symbol (mode_text mode) ∷ bare text
bare-mode mode [] other = absurd other
bare-mode mode (c ∷ cs) other = grind arith

-- and so is a minus sign
pub bare-minus : (text : List ℕ) → Follows text → bare (45 ∷ text) ≡ piece TokenKind.Symbol (codes "-") ∷ bare text
bare-minus [] other = absurd other
bare-minus (c ∷ cs) other = rw other refl
