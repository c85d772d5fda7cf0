-- Of operands without limits: they read and write anywhere in the core, so one address stands for both pointers. The
-- laws of limits of the crate `mars_core` say that these are the definitions if both limits are the core size.
use Rattle.std.specs.Prelude.{ℕ, List}
use Rattle.war_types.specs.{declared.instr.Mode.Mode, declared.instr.Instr.Instr}
use Rattle.{mars_words.specs.Numbers.{plus, Field, number}, mars_operations.specs.Cells.cell}
use Rattle.mars_operations.specs.Operand.{Operand, Evaluated, evaluated, raised_at, lowered_at}
use Rattle.mars_operations.specs.Operand as limited

abbrev pub found : List Instr → ℕ → Operand
found core at = limited.found at at core

-- from the cell at an address, on by one of that cell's numbers
abbrev pub through : ℕ → List Instr → ℕ → Field → ℕ
through size core at field = plus size at (number field (cell core at))

-- an indirect mode goes through the cell at an address
abbrev pub indirect : ℕ → List Instr → ℕ → Field → Operand
indirect size core at field = found core (through size core at field)

-- a predecrement lowers that cell's number before the pointer is taken
abbrev pub predecremented : ℕ → List Instr → ℕ → Field → Evaluated
predecremented size core at field =
    let lower = lowered_at size core at field in
    evaluated (indirect size lower at field) lower

-- a postincrement raises it after the register is copied
abbrev pub postincremented : ℕ → List Instr → ℕ → Field → Evaluated
postincremented size core at field = evaluated (indirect size core at field) (raised_at size core at field)

-- the operand of a mode and a number in an instruction at pc, by the address that pc and the number make
abbrev pub by_mode : ℕ → List Instr → ℕ → Mode → ℕ → Evaluated
by_mode size core pc Mode.Immediate at = evaluated (found core pc) core
by_mode size core pc Mode.Direct at = evaluated (found core at) core
by_mode size core pc Mode.AIndirect at = evaluated (indirect size core at Field.A) core
by_mode size core pc Mode.BIndirect at = evaluated (indirect size core at Field.B) core
by_mode size core pc Mode.APre at = predecremented size core at Field.A
by_mode size core pc Mode.BPre at = predecremented size core at Field.B
by_mode size core pc Mode.APost at = postincremented size core at Field.A
by_mode size core pc Mode.BPost at = postincremented size core at Field.B

unfoldable pub operand : ℕ → List Instr → ℕ → Mode → ℕ → Evaluated
operand size core pc mode number = by_mode size core pc mode (plus size pc number)
