-- The rows so far and those of the members that are left are all rows that are due.
use Rattle.{std.proofs.Common.{◌≡◌, ◌++◌, drop}, koth_hill.specs.{Rows.rows_parts, Table.rows_of_rank, Kept.members_of}}
use Rattle.koth_hill.proofs.table.push_rank.Given as goal

abbrev pub invariant-loop-i : goal.invariant-loop-i
invariant-loop-i g l =
    rows_parts l.rows.items ++ rows_of_rank l.scores l.rank (drop l.i (members_of l.members)) (drop l.i l.scores) ≡ rows_parts l.fn.rows.items ++ rows_of_rank l.scores l.rank (members_of l.members) l.scores
