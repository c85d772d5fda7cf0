-- The numbers of instructions, and what is made of them in a core of `size` cells.
use Rattle.std.specs.Prelude.{ℕ, ◌+◌, ◌-◌, ◌*◌, ◌/◌, ◌%◌, ◌==◌, nat_lt, if◌then◌else◌, Option, Some, None}
use Rattle.war_types.specs.declared.instr.Instr.{Instr}

-- all numbers and addresses are modulo the core size
abbrev pub plus : ℕ → ℕ → ℕ → ℕ
plus size m n = (m + n) % size

abbrev pub minus : ℕ → ℕ → ℕ → ℕ
minus size m n = (m + (size - n)) % size

-- the draft's "Fold": a pointer within a limit leads at most half of it forwards, and the rest backwards
abbrev pub folded : ℕ → ℕ → ℕ → ℕ
folded size limit pointer =
    let rest = pointer % limit in
    if nat_lt (limit / 2) rest then rest + (size - limit) else rest

-- one of the two numbers of an instruction
pub data Field : Type 0 where
  A : Field
  B : Field

abbrev pub number : Field → Instr → ℕ
number Field.A i = i.a
number Field.B i = i.b

abbrev pub with_number : Field → ℕ → Instr → Instr
with_number Field.A n i = record { op = i.op; modifier = i.modifier; a_mode = i.a_mode; a = n; b_mode = i.b_mode; b = i.b }
with_number Field.B n i = record { op = i.op; modifier = i.modifier; a_mode = i.a_mode; a = i.a; b_mode = i.b_mode; b = n }

-- what an operation makes of two numbers
pub data Arithmetic : Type 0 where
  Sum : Arithmetic
  Difference : Arithmetic
  Product : Arithmetic
  Quotient : Arithmetic
  Remainder : Arithmetic

-- y, of the B operand, with x, of the A operand; nothing for a division by 0
abbrev pub combined : ℕ → Arithmetic → ℕ → ℕ → Option ℕ
combined size Arithmetic.Sum y x = Some (plus size y x)
combined size Arithmetic.Difference y x = Some (minus size y x)
combined size Arithmetic.Product y x = Some ((y * x) % size)
combined size Arithmetic.Quotient y x = if x == 0 then None else Some (y / x)
combined size Arithmetic.Remainder y x = if x == 0 then None else Some (y % x)
