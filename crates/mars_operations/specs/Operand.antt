-- The evaluation of an operand (the 1994 draft standard, "Instruction Execution"; the time of the B operand's copy is
-- this project's own, for an immediate one too).
use Rattle.std.specs.Prelude.{ℕ, ◌+◌, List, slice_set}
use Rattle.war_types.specs.{declared.instr.Mode.Mode, declared.instr.Instr.Instr}
use Rattle.{mars_words.specs.Numbers.{plus, folded, Field, number}, mars_operations.specs.Cells.{cell, raised, lowered}}

-- how many cells a core has, and within how many around its instruction an operand reads, and writes
pub record Reach : Type 0 where
  pub size : ℕ
  pub read : ℕ
  pub write : ℕ

-- where an operand reads and where it writes, counted from its instruction
pub record Pointers : Type 0 where
  pub read : ℕ
  pub write : ℕ

abbrev pub pointers : ℕ → ℕ → Pointers
pointers read write = record { read = read; write = write }

-- a number as pointers
abbrev pub pointed : Reach → ℕ → Pointers
pointed reach n = pointers (folded reach.size reach.read n) (folded reach.size reach.write n)

-- each pointer led on by a number of the cell that it leads to
abbrev pub led_on : Reach → List Instr → ℕ → Field → Pointers → Pointers
led_on reach core pc field p =
    pointers
    (folded reach.size reach.read (p.read + number field (cell core (plus reach.size pc p.read))))
    (folded reach.size reach.write (p.write + number field (cell core (plus reach.size pc p.write))))

-- a found operand: the address that it reads, the one that it writes, and the instruction copied from the first
pub record Operand : Type 0 where
  pub pointer : ℕ
  pub target : ℕ
  pub register : Instr

-- that, and the core afterwards
pub record Evaluated : Type 0 where
  pub operand : Operand
  pub core : List Instr

-- the register is copied from the core as it stands
abbrev pub found : ℕ → ℕ → List Instr → Operand
found pointer target core = record { pointer = pointer; target = target; register = cell core pointer }

abbrev pub evaluated : Operand → List Instr → Evaluated
evaluated operand core = record { operand = operand; core = core }

abbrev pub found_from : Reach → List Instr → ℕ → Pointers → Operand
found_from reach core pc p = found (plus reach.size pc p.read) (plus reach.size pc p.write) core

-- the core with a number of the cell at an address raised, or lowered, by 1
abbrev pub raised_at : ℕ → List Instr → ℕ → Field → List Instr
raised_at size core at field = slice_set core at (raised size field (cell core at))

abbrev pub lowered_at : ℕ → List Instr → ℕ → Field → List Instr
lowered_at size core at field = slice_set core at (lowered size field (cell core at))

-- an indirect mode goes through the cells that the pointers lead to
abbrev pub indirect : Reach → List Instr → ℕ → Field → Pointers → Operand
indirect reach core pc field p = found_from reach core pc (led_on reach core pc field p)

-- a predecrement lowers the number of the cell to be written through before the pointers are led on
abbrev pub predecremented : Reach → List Instr → ℕ → Field → Pointers → Evaluated
predecremented reach core pc field p =
    let lower = lowered_at reach.size core (plus reach.size pc p.write) field in
    evaluated (indirect reach lower pc field p) lower

-- a postincrement raises it after the register is copied
abbrev pub postincremented : Reach → List Instr → ℕ → Field → Pointers → Evaluated
postincremented reach core pc field p = evaluated (indirect reach core pc field p) (raised_at reach.size core (plus reach.size pc p.write) field)

-- the operand of a mode in an instruction at pc, by the pointers that its number makes
abbrev pub by_mode : Reach → List Instr → ℕ → Mode → Pointers → Evaluated
by_mode reach core pc Mode.Immediate p = evaluated (found_from reach core pc (pointers 0 0)) core
by_mode reach core pc Mode.Direct p = evaluated (found_from reach core pc p) core
by_mode reach core pc Mode.AIndirect p = evaluated (indirect reach core pc Field.A p) core
by_mode reach core pc Mode.BIndirect p = evaluated (indirect reach core pc Field.B p) core
by_mode reach core pc Mode.APre p = predecremented reach core pc Field.A p
by_mode reach core pc Mode.BPre p = predecremented reach core pc Field.B p
by_mode reach core pc Mode.APost p = postincremented reach core pc Field.A p
by_mode reach core pc Mode.BPost p = postincremented reach core pc Field.B p

unfoldable pub operand : Reach → List Instr → ℕ → Mode → ℕ → Evaluated
operand reach core pc mode number = by_mode reach core pc mode (pointed reach number)
