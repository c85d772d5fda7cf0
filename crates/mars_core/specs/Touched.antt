-- What a turn leaves as it was.
use Rattle.std.specs.Prelude.{◌≡◌, ◌≢◌, ℕ, List, All}
use Rattle.{war_types.specs.declared.instr.Instr.Instr, mars_core.specs.Cells.cell}

-- the cells at all addresses but these hold the same in both cores
abbrev pub AreSameBut : List ℕ → List Instr → List Instr → Type 0
AreSameBut addresses old new = (at : ℕ) → All (λ a. a ≢ at) addresses → cell new at ≡ cell old at
