-- A law of limits.
use Rattle.std.specs.Prelude.{◌≡◌, ℕ, List}
use Rattle.{war_types.specs.declared.instr.Instr.Instr, mars_core.specs.{Cells.IsCore, Round.{side_turn, IsQueue}, Whole.whole}}
use Rattle.mars_core.specs.Whole as without_limits

-- with both limits at the core size a side's turn is the turn without limits
abbrev pub LawOfLimits : Type 0
LawOfLimits = (size limit : ℕ) (core : List Instr) (queue : List ℕ) → IsCore size core → IsQueue size limit queue
    → side_turn (whole size) limit core queue ≡ without_limits.side_turn size limit core queue
