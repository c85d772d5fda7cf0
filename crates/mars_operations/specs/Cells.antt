-- Cells, and a core of `size` of them.
use Rattle.std.specs.Prelude.{ℕ, ◌≤◌, ◌≡◌, List, length, slice_index_or, All}
use Rattle.war_types.specs.{declared.instr.Instr.Instr, Warrior.HasNumbersBelow, declared.instr.Op.Op, declared.instr.Modifier.Modifier, declared.instr.Mode.Mode}
use Rattle.mars_words.specs.Numbers.{plus, minus, Field, number, with_number}

-- what a cell holds that nothing was loaded into: DAT.F $0,$0
abbrev pub blank : Instr
blank = record { op = Op.Dat; modifier = Modifier.F; a_mode = Mode.Direct; a = 0; b_mode = Mode.Direct; b = 0 }

abbrev pub cell : List Instr → ℕ → Instr
cell core at = slice_index_or core at blank

-- an instruction with one of its numbers raised, or lowered, by 1
abbrev pub raised : ℕ → Field → Instr → Instr
raised size field i = with_number field (plus size (number field i) 1) i

abbrev pub lowered : ℕ → Field → Instr → Instr
lowered size field i = with_number field (minus size (number field i) 1) i

-- a core of `size` cells, each number in it below `size`
pub record IsCore (size : ℕ) (core : List Instr) : Type 0 where
  pub some : 1 ≤ size
  pub length : length core ≡ size
  pub numbers : All (HasNumbersBelow size) core
