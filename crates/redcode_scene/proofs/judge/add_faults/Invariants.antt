-- The faults so far, and those of the lines that are left, are those of all lines.
use Rattle.{std.proofs.Common.{◌≡◌, length}, redcode_scene.specs.Faults.faults_from}
use Rattle.redcode_scene.proofs.judge.add_faults.Given as goal

abbrev pub invariant-loop-rest : goal.invariant-loop-rest
invariant-loop-rest g l =
    faults_from l.settings l.expanded.labels l.faults.items l.rest ≡ faults_from l.settings l.expanded.labels l.fn.faults.items l.expanded.lines

abbrev pub decreases-loop-rest : goal.decreases-loop-rest
decreases-loop-rest g l = length l.rest
