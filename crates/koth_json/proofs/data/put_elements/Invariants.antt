-- The elements of the first rows are put.
use Rattle.{std.proofs.Common.{◌≡◌, ◌++◌, take}, koth_hill.specs.Rows.rows_parts}
use Rattle.std.specs.List.{enumerate_from, flat_map}
use Rattle.koth_json.specs.Data.{row_element}
use Rattle.koth_json.proofs.data.put_elements.Given as goal

abbrev pub invariant-loop-place : goal.invariant-loop-place
invariant-loop-place g l = l.text.items ≡ l.fn.text.items ++ flat_map (λ (rank, row). row_element l.hill rank row) (enumerate_from 1 (take l.place (rows_parts l.rows)))
