-- The headings so far are those of the ranks so far.
use Rattle.{std.proofs.Common.◌≡◌, koth_views.specs.Matrix.matrix_heading}
use Rattle.koth_views.proofs.matrix.heading.Given as goal

abbrev pub invariant-loop-place : goal.invariant-loop-place
invariant-loop-place g l = l.cells ≡ matrix_heading l.place
