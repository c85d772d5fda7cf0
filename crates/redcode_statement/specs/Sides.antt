-- The operands of an instruction, parted by commas, even within parentheses: the first comma parts A from B, and a second
-- one ends B.
use Rattle.std.specs.Prelude.{Bool, false, if◌then◌else◌, List, [], ◌∷◌, Option, Some, None, Result, Ok, Err, is_some, codes}
use Rattle.{war_types.specs.{declared.fault.AsmKind.AsmKind, declared.instr.Op.Op}, redcode_text.specs.Tokens.Piece, redcode_lines.specs.Line.has_text}

abbrev pub is_comma : Piece → Bool
is_comma token = has_text (codes ",") token

-- the tokens before the first comma, or all if there is none
abbrev pub before_comma : List Piece → List Piece
before_comma [] = []
before_comma (t ∷ ts) = if is_comma t then [] else t ∷ before_comma ts

-- the tokens after the first comma, if there is one
abbrev pub behind_comma : List Piece → Option (List Piece)
behind_comma [] = None
behind_comma (t ∷ ts) = if is_comma t then Some ts else behind_comma ts

-- the tokens of both operands, none for an operand that is not written, and whether a second comma stands after them
pub record SideTokens : Type 0 where
  pub a : List Piece
  pub b : List Piece
  pub more : Bool

abbrev pub side_tokens : List Piece → List Piece → Bool → SideTokens
side_tokens a b more = record { a = a; b = b; more = more }

-- DAT and NOP may have no operand; every other operation needs one
abbrev pub no_operand : Op → Result SideTokens AsmKind
no_operand Op.Dat = Ok (side_tokens [] [] false)
no_operand Op.Nop = Ok (side_tokens [] [] false)
no_operand other = Err AsmKind.MissingOperand

-- one operand is the B operand of DAT and the A operand of every other operation
abbrev pub one_operand : Op → List Piece → SideTokens
one_operand Op.Dat given = side_tokens [] given false
one_operand other given = side_tokens given [] false

abbrev pub without_comma : Op → List Piece → Result SideTokens AsmKind
without_comma op [] = no_operand op
without_comma op (t ∷ ts) = Ok (one_operand op (t ∷ ts))

-- of two operands each needs a token
abbrev pub two_operands : List Piece → List Piece → Bool → Result SideTokens AsmKind
two_operands [] b more = Err AsmKind.MissingOperand
two_operands (t ∷ ts) [] more = Err AsmKind.MissingOperand
two_operands (t ∷ ts) (u ∷ us) more = Ok (side_tokens (t ∷ ts) (u ∷ us) more)

abbrev pub parted : Op → List Piece → Option (List Piece) → Result SideTokens AsmKind
parted op a None = without_comma op a
parted op a (Some behind) = two_operands a (before_comma behind) (is_some (behind_comma behind))

-- the operands that an operation has in these tokens
abbrev pub sides_of : Op → List Piece → Result SideTokens AsmKind
sides_of op tokens = parted op (before_comma tokens) (behind_comma tokens)
