-- A refusal of the line among these is among those that are left.
use Rattle.{std.proofs.Common.{◌≡◌, length, map}, redcode_scene.specs.Faults.is_told}
use Rattle.redcode_diagnosis.proofs.further.is_told.Given as goal

abbrev pub invariant-loop-rest : goal.invariant-loop-rest
invariant-loop-rest g l = is_told (map (λ d. d.fault) l.rest) l.line ≡ is_told (map (λ d. d.fault) l.all) l.line

abbrev pub decreases-loop-rest : goal.decreases-loop-rest
decreases-loop-rest g l = length l.rest
