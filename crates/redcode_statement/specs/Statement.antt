-- What the tokens of a line say.
use Rattle.std.specs.Prelude.{ℕ, List, [], ◌∷◌, Option, Some, None, Result, Ok, Err, ℤ}
use Rattle.{war_types.specs.{declared.fault.AsmKind.AsmKind, declared.instr.Instr.Instr}, redcode_text.specs.{declared.vocabulary.Word.Word, Operators.Value}}
use Rattle.{redcode_text.specs.{Tokens.Piece, Value.value_of}, redcode_statement.specs.{declared.statement.Statement.Statement, Chain.◌>>=◌, Sides.{before_comma, behind_comma}}}
pub use Rattle.redcode_lines.specs.Line.{is_bad_kind, is_bad}

-- ---- the expression of ORG, END and ;assert, which a comma ends

abbrev pub as_said : Value → Result ℤ AsmKind
as_said (Ok z) = Ok z
as_said (Err fault) = Err (AsmKind.Expression fault)

abbrev pub value_or_missing : (List ℕ → Option ℤ) → List Piece → Result ℤ AsmKind
value_or_missing names [] = Err AsmKind.MissingOperand
value_or_missing names (t ∷ ts) = as_said (value_of names (t ∷ ts))

abbrev pub unless_comma : Option (List Piece) → ℤ → Result ℤ AsmKind
unless_comma None z = Ok z
unless_comma (Some behind) z = Err AsmKind.ExtraText

-- the expression's fault, else that of the comma
abbrev pub single_value : (List ℕ → Option ℤ) → List Piece → Result ℤ AsmKind
single_value names tokens = value_or_missing names (before_comma tokens) >>= unless_comma (behind_comma tokens)

-- ---- the lines

abbrev pub org_said : (List ℕ → Option ℤ) → List Piece → Result Statement AsmKind
org_said names tokens = single_value names tokens >>= λ z. Ok (Statement.Org z)

-- END may stand alone
abbrev pub end_said : (List ℕ → Option ℤ) → List Piece → Result Statement AsmKind
end_said names [] = Ok Statement.Nothing
end_said names (t ∷ ts) = single_value names (t ∷ ts) >>= λ z. Ok (Statement.End z)

-- an assertion without a token says nothing
abbrev pub assert_said : (List ℕ → Option ℤ) → List Piece → Result Statement AsmKind
assert_said names [] = Ok Statement.Nothing
assert_said names (t ∷ ts) = single_value names (t ∷ ts) >>= λ z. Ok (Statement.Assert z)

abbrev pub instruction_said : Result Instr AsmKind → Result Statement AsmKind
instruction_said instr = instr >>= λ i. Ok (Statement.Instruction i)

-- any other line: there is no P-space, so PIN is refused for that, and every other line has no operation
abbrev pub other_said : Option Word → Result Statement AsmKind
other_said (Some Word.Pin) = Err AsmKind.Pspace
other_said _ = Err AsmKind.BadOperation

-- the instruction of a statement that is one
abbrev pub instr_said : Statement → List Instr
instr_said (Statement.Instruction instr) = instr ∷ []
instr_said _ = []
