-- The lines of the first rows are put.
use Rattle.{std.proofs.Common.{◌≡◌, ◌++◌, take}, koth_hill.specs.Rows.rows_parts}
use Rattle.std.specs.List.{enumerate_from, flat_map}
use Rattle.koth_json.specs.Hill.{row_line}
use Rattle.koth_json.proofs.hill.put_rows.Given as goal

abbrev pub invariant-loop-place : goal.invariant-loop-place
invariant-loop-place g l = l.lines.items ≡ l.fn.lines.items ++ flat_map (λ (rank, row). row_line l.hill rank row) (enumerate_from 1 (take l.place (rows_parts l.rows)))
