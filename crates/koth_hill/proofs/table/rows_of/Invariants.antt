-- The rows so far and those of the ranks that are left are the table.
use Rattle.{std.proofs.Common.{◌≡◌, ◌+◌, ◌-◌, ◌++◌, length}, koth_hill.specs.{Rows.rows_parts, Table.rows_by_rank, Kept.members_of}}
use Rattle.koth_hill.proofs.table.rows_of.Given as goal

abbrev pub invariant-loop-place : goal.invariant-loop-place
invariant-loop-place g l =
    rows_parts l.rows.items ++ rows_by_rank l.all_scores (members_of l.members) (l.place + 1) (length l.members - l.place) ≡ rows_by_rank l.all_scores (members_of l.members) 1 (length l.members)
