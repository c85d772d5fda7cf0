-- The width so far is that of the rows so far.
use Rattle.{std.proofs.Common.{◌≡◌, take}, koth_text.specs.Columns.width}
use Rattle.koth_text.proofs.columns.width.Given as goal

abbrev pub invariant-loop-place : goal.invariant-loop-place
invariant-loop-place g l = l.width ≡ width (take l.place l.rows) l.column
