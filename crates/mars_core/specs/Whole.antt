-- Of the machine without limits: an instruction that is executed by operands without limits, and a side's turn. The
-- laws of limits say that these are the definitions if both limits are the core size.
use Rattle.std.specs.Prelude.{ℕ, List, [], ◌∷◌, ◌++◌, take}
use Rattle.{war_types.specs.declared.instr.Instr.Instr, mars_core.specs.{Cells.cell, Operand.Reach, Effect.{Effect, effect}, Round.{SideTurn, side_turned, turned_by}, declared.round.Turned.Turned}}
pub use Rattle.mars_operations.specs.Whole.{found, through, indirect, predecremented, postincremented, by_mode}
unfoldable pub use Rattle.mars_operations.specs.Whole.{operand}

-- both limits are the core size
abbrev pub whole : ℕ → Reach
whole size = record { size = size; read = size; write = size }

-- the process at pc, as with limits
unfoldable pub executed : ℕ → List Instr → ℕ → Effect
executed size core pc =
    let i = cell core pc in
    let a = operand size core pc i.a_mode i.a in
    let b = operand size a.core pc i.b_mode i.b in
    effect size pc i.op i.modifier a.operand b.operand b.core

-- a side's turn, as with limits
unfoldable pub side_turn : ℕ → ℕ → List Instr → List ℕ → SideTurn
side_turn size limit core [] = side_turned core [] Turned.Over
side_turn size limit core (pc ∷ rest) =
    let done = executed size core pc in
    side_turned done.core (take limit (rest ++ done.queued)) (turned_by done.queued)
