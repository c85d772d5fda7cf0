-- Whether it is in one of the rows that are left is whether it is in one of all.
use Rattle.{std.proofs.Common.{◌≡◌, drop}, koth_hill.specs.Rows.rows_parts, koth_views.specs.Placed.is_on}
use Rattle.koth_views.proofs.placed.is_on.Given as goal

abbrev pub invariant-loop-i : goal.invariant-loop-i
invariant-loop-i l = is_on (rows_parts (drop l.i l.rows)) l.entry ≡ is_on (rows_parts l.rows) l.entry
