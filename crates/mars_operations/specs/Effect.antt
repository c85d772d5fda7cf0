-- What each operation does (the 1994 draft standard, "Instructions"; SEQ, SNE and NOP as in pMARS).
use Rattle.std.specs.{Prelude.{ℕ, Bool, ◌==◌, not, nat_lt, if◌then◌else◌, List, [], ◌∷◌, Option, Some, None, slice_set}, Option.is_some, List.list_all}
use Rattle.war_types.specs.{declared.instr.Op.Op, declared.instr.Modifier.Modifier, declared.instr.Instr.Instr}
use Rattle.mars_words.specs.{Numbers.{plus, minus, Field, number, with_number, Arithmetic, combined}, Pairs.{Pair, pairs}}
use Rattle.mars_operations.specs.{Cells.{cell, lowered}, Operand.Operand}
pub use Rattle.mars_words.specs.Equal.{numbers_equal, kinds_equal, are_equal}

-- MOV: each target field is the A register's field of its pair
abbrev pub moved : List Pair → Instr → Instr → Instr
moved [] a target = target
moved (p ∷ ps) a target = moved ps a (with_number p.target (number p.source a) target)

-- under .I the whole instruction
abbrev pub copied : Modifier → Instr → Instr → Instr
copied Modifier.I a target = a
copied modifier a target = moved (pairs modifier) a target

-- the value of a pair, by the registers
abbrev pub value : ℕ → Arithmetic → Instr → Instr → Pair → Option ℕ
value size arithmetic a b p = combined size arithmetic (number p.target b) (number p.source a)

abbrev pub with_value : Field → Option ℕ → Instr → Instr
with_value field None target = target
with_value field (Some n) target = with_number field n target

-- each target field is the value of its pair, if it has one
abbrev pub calculated : ℕ → Arithmetic → Instr → Instr → List Pair → Instr → Instr
calculated size arithmetic a b [] target = target
calculated size arithmetic a b (p ∷ ps) target = calculated size arithmetic a b ps (with_value p.target (value size arithmetic a b p) target)

abbrev pub have_values : ℕ → Arithmetic → Instr → Instr → List Pair → Bool
have_values size arithmetic a b ps = list_all (λ p. is_some (value size arithmetic a b p)) ps

-- DJN: the target's fields lowered by 1
abbrev pub all_lowered : ℕ → List Pair → Instr → Instr
all_lowered size [] target = target
all_lowered size (p ∷ ps) target = all_lowered size ps (lowered size p.target target)

-- every B field of the pairs is 0
abbrev pub are_zero : Modifier → Instr → Bool
are_zero modifier b = list_all (λ p. number p.target b == 0) (pairs modifier)

-- every B field of the pairs is 0 once it is lowered by 1
abbrev pub fall_to_zero : ℕ → Modifier → Instr → Bool
fall_to_zero size modifier b = list_all (λ p. minus size (number p.target b) 1 == 0) (pairs modifier)

-- SLT: in every pair the A field is below the B field
abbrev pub are_less : Modifier → Instr → Instr → Bool
are_less modifier a b = list_all (λ p. nat_lt (number p.source a) (number p.target b)) (pairs modifier)

-- the core after an operation, and the addresses queued in place of the process
pub record Effect : Type 0 where
  pub core : List Instr
  pub queued : List ℕ

abbrev pub queues : List Instr → List ℕ → Effect
queues core queued = record { core = core; queued = queued }

-- the next instruction is queued, or, on a skip, the one after it
abbrev pub next : ℕ → ℕ → List ℕ
next size pc = plus size pc 1 ∷ []

abbrev pub skip_where : ℕ → ℕ → Bool → List ℕ
skip_where size pc test = plus size pc (if test then 2 else 1) ∷ []

-- the A pointer is queued if the test holds, and else the next instruction
abbrev pub jump_where : ℕ → ℕ → Operand → Bool → List ℕ
jump_where size pc a test = (if test then a.pointer else plus size pc 1) ∷ []

-- the cell that the B operand writes, and the core with another instruction there
abbrev pub target : Operand → List Instr → Instr
target b core = cell core b.target

abbrev pub put : Operand → Instr → List Instr → List Instr
put b i core = slice_set core b.target i

-- the process ends if a pair has no value
abbrev pub calculates : ℕ → ℕ → Arithmetic → Modifier → Operand → Operand → List Instr → Effect
calculates size pc arithmetic m a b core =
    queues (put b (calculated size arithmetic a.register b.register (pairs m) (target b core)) core)
    (if have_values size arithmetic a.register b.register (pairs m) then next size pc else [])

-- a line for each operation
abbrev pub by_op : ℕ → ℕ → Op → Modifier → Operand → Operand → List Instr → Effect
by_op size pc Op.Dat m a b core = queues core []
by_op size pc Op.Mov m a b core = queues (put b (copied m a.register (target b core)) core) (next size pc)
by_op size pc Op.Add m a b core = calculates size pc Arithmetic.Sum m a b core
by_op size pc Op.Sub m a b core = calculates size pc Arithmetic.Difference m a b core
by_op size pc Op.Mul m a b core = calculates size pc Arithmetic.Product m a b core
by_op size pc Op.Div m a b core = calculates size pc Arithmetic.Quotient m a b core
by_op size pc Op.Mdl m a b core = calculates size pc Arithmetic.Remainder m a b core
by_op size pc Op.Jmp m a b core = queues core (a.pointer ∷ [])
by_op size pc Op.Jmz m a b core = queues core (jump_where size pc a (are_zero m b.register))
by_op size pc Op.Jmn m a b core = queues core (jump_where size pc a (not (are_zero m b.register)))
by_op size pc Op.Djn m a b core =
    queues (put b (all_lowered size (pairs m) (target b core)) core) (jump_where size pc a (not (fall_to_zero size m b.register)))
by_op size pc Op.Seq m a b core = queues core (skip_where size pc (are_equal m a.register b.register))
by_op size pc Op.Sne m a b core = queues core (skip_where size pc (not (are_equal m a.register b.register)))
by_op size pc Op.Slt m a b core = queues core (skip_where size pc (are_less m a.register b.register))
by_op size pc Op.Spl m a b core = queues core (plus size pc 1 ∷ a.pointer ∷ [])
by_op size pc Op.Nop m a b core = queues core (next size pc)

unfoldable pub effect : ℕ → ℕ → Op → Modifier → Operand → Operand → List Instr → Effect
effect size pc op m a b core = by_op size pc op m a b core
