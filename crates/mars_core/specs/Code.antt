-- Of the code alone: what its own values are in the words of the definitions. No definition names a word of this file.
use Rattle.std.specs.Prelude.{ℕ, ◌≤◌, List}
use Rattle.{war_types.specs.{declared.instr.Mode.Mode, declared.instr.Instr.Instr}, mars_words.specs.Numbers.Field}
use Rattle.mars_core.specs.declared.round.Side.{Side}
use Rattle.mars_core.specs.Operand.{Reach, Pointers, Operand, operand}
pub use Rattle.mars_operations.specs.Code.{operand_of, addresses}
use Rattle.mars_core.specs.declared.limits.Pointers as code_pointers
use Rattle.mars_core.specs.Whole as whole

abbrev pub pointers_of : code_pointers.Pointers → Pointers
pointers_of p = record { read = p.read; write = p.write }

-- both operands of an instruction, and the core afterwards
pub record Operands : Type 0 where
  pub a : Operand
  pub b : Operand
  pub core : List Instr

abbrev pub evaluated_both : Operand → Operand → List Instr → Operands
evaluated_both a b core = record { a = a; b = b; core = core }

-- A is evaluated, then B on the core that A left
abbrev pub operands : Reach → List Instr → ℕ → Instr → Operands
operands reach core pc i =
    let a = operand reach core pc i.a_mode i.a in
    let b = operand reach a.core pc i.b_mode i.b in
    evaluated_both a.operand b.operand b.core

abbrev pub whole_operands : ℕ → List Instr → ℕ → Instr → Operands
whole_operands size core pc i =
    let a = whole.operand size core pc i.a_mode i.a in
    let b = whole.operand size a.core pc i.b_mode i.b in
    evaluated_both a.operand b.operand b.core

abbrev pub other : Side → Side
other Side.First = Side.Second
other Side.Second = Side.First

-- the number by which an indirect mode leads on
abbrev pub led_by : Mode → Field
led_by Mode.AIndirect = Field.A
led_by Mode.APre = Field.A
led_by Mode.APost = Field.A
led_by mode = Field.B

-- limits that are within a core
pub record IsReach (reach : Reach) : Type 0 where
  pub size : reach.size ≤ 65535
  pub read_least : 1 ≤ reach.read
  pub read_most : reach.read ≤ reach.size
  pub write_least : 1 ≤ reach.write
  pub write_most : reach.write ≤ reach.size
