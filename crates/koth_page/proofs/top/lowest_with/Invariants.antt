-- The least of those that are left and of the least so far is the least of all.
use Rattle.{std.proofs.Common.{◌≡◌, drop}, koth_hill.specs.Rows.rows_parts, koth_page.specs.Top.lowest_with}
use Rattle.koth_page.proofs.top.lowest_with.Given as goal

abbrev pub invariant-loop-i : goal.invariant-loop-i
invariant-loop-i l = lowest_with l.lowest (rows_parts (drop l.i l.rows)) ≡ lowest_with l.first (rows_parts l.rows)
