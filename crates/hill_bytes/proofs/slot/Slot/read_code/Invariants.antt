-- The instructions so far are those that stand in the places.
use Rattle.{std.proofs.Common.{◌≡◌, ℕ, List, All, length, take}, war_types.specs.{declared.instr.Instr.Instr, Warrior.HasNumbersBelow}, hill_bytes.specs.Layout.{new_layout, with_code}}
use Rattle.hill_bytes.proofs.slot.Slot.read_code.Given as goal

abbrev pub invariant-loop-place : goal.invariant-loop-place
invariant-loop-place g l = (is : List Instr) (behind : List ℕ) → length is ≡ l.len → All (HasNumbersBelow l.core) is
    → l.self.sectors ≡ with_code new_layout is behind → l.code.items ≡ take l.place is
