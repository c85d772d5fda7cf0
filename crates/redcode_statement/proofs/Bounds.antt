-- The numbers of an instruction are addresses of the core.
use Rattle.{std.proofs.Common.{ℕ, ◌<◌, Bool, List, Option, Result, ℤ, IfOk, arith}, std.specs.List.AllByRecursion, war_types.specs.declared.fault.AsmKind.AsmKind}
use Rattle.war_types.specs.{declared.instr.Instr.Instr, declared.instr.Mode.Mode, declared.instr.Modifier.Modifier, declared.instr.Op.Op, Warrior.HasNumbersBelow}
use Rattle.redcode_text.specs.{declared.vocabulary.Word.Word, Operators.Value, Tokens.Piece}
use Rattle.redcode_statement.specs.{declared.statement.Statement.Statement, Instruction.{reduced, instr_of_values, instruction_of}, Statement.{instruction_said, instr_said}}

reduced-below : (core : ℕ) (z : ℤ) → 0 < core → reduced core z < core
reduced-below core z some = grind arith

below-values : (core : ℕ) (op : Op) (modifier : Option Modifier) (a_mode b_mode : Mode) (a b : Value) (more : Bool) → 0 < core
    → IfOk (instr_of_values core op modifier a_mode b_mode a b more) (HasNumbersBelow core)
below-values core op modifier a_mode b_mode a b more some = grind (arith, reduced-below)

pub below-instruction : (core : ℕ) (names : List ℕ → Option ℤ) (word : Option Word) (tokens : List Piece) → 0 < core → IfOk (instruction_of core names word tokens) (HasNumbersBelow core)
below-instruction core names word tokens some = grind (arith, below-values)

-- the instruction of a statement that is one has such numbers
abbrev pub HasBounds : ℕ → Statement → Type 0
HasBounds core statement = AllByRecursion (HasNumbersBelow core) (instr_said statement)

pub below-said : (core : ℕ) (instr : Result Instr AsmKind) → IfOk instr (HasNumbersBelow core) → IfOk (instruction_said instr) (HasBounds core)
below-said core instr below = grind arith
