-- A fault of the line among these is among those that are left.
use Rattle.{std.proofs.Common.{◌≡◌, length}, redcode_scene.specs.Faults.is_told}
use Rattle.redcode_scene.proofs.judge.is_told.Given as goal

abbrev pub invariant-loop-rest : goal.invariant-loop-rest
invariant-loop-rest l = is_told l.rest l.line ≡ is_told l.faults l.line

abbrev pub decreases-loop-rest : goal.decreases-loop-rest
decreases-loop-rest l = length l.rest
