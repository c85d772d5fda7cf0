-- The least of those that are left and of the least so far is the least of all.
use Rattle.{std.proofs.Common.{◌≡◌, drop}, koth_hill.specs.Rows.rows_parts, koth_views.specs.Fallen.least_with}
use Rattle.koth_views.proofs.fallen.least_with.Given as goal

abbrev pub invariant-loop-i : goal.invariant-loop-i
invariant-loop-i g l = least_with l.hill l.bouts l.least (rows_parts (drop l.i l.rows)) ≡ least_with l.hill l.bouts l.first (rows_parts l.rows)
