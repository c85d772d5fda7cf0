-- What was read is zeros.
use Rattle.hill_file.specs.Zeros.{TakesZeros}
use Rattle.hill_file.proofs.zeros.require_zeros.Given as goal

abbrev pub invariant-loop : goal.invariant-loop
invariant-loop g l = TakesZeros (g.F.Read.remaining l.initial.file) (g.F.Read.remaining l.file)
