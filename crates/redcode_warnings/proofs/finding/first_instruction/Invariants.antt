-- The first instruction of these lines is that of those that are left.
use Rattle.{std.proofs.Common.{◌≡◌, length}, redcode_warnings.specs.Warnings.first_instruction}
use Rattle.redcode_warnings.proofs.finding.first_instruction.Given as goal

abbrev pub invariant-loop-rest : goal.invariant-loop-rest
invariant-loop-rest g l = first_instruction l.rest ≡ first_instruction l.lines

abbrev pub decreases-loop-rest : goal.decreases-loop-rest
decreases-loop-rest g l = length l.rest
