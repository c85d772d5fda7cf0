-- The first of these words is the first of those that are left.
use Rattle.{std.proofs.Common.{◌≡◌, find, length, map}, redcode_warnings.specs.Label.is_near}
use Rattle.redcode_warnings.proofs.near.first_near.Given as goal

abbrev pub invariant-loop-rest : goal.invariant-loop-rest
invariant-loop-rest l = find (is_near l.name) (map (λ w. w.now) l.rest) ≡ find (is_near l.name) (map (λ w. w.now) l.words)

abbrev pub decreases-loop-rest : goal.decreases-loop-rest
decreases-loop-rest l = length l.rest
