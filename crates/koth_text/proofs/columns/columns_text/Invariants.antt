-- The lines so far are those of the rows so far.
use Rattle.{std.proofs.Common.{◌≡◌, take}, std.specs.List.flat_map, koth_text.specs.Columns.row_text}
use Rattle.koth_text.proofs.columns.columns_text.Given as goal

abbrev pub invariant-loop-place : goal.invariant-loop-place
invariant-loop-place g l = l.text.items ≡ flat_map (row_text l.alignments l.rows) (take l.place l.rows)
