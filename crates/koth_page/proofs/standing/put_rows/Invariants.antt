-- The rows so far are put.
use Rattle.{std.proofs.Common.{◌≡◌, ◌++◌, take}, koth_page.specs.{Ranked.all_parts, Standing.standing_rows}}
use Rattle.koth_page.proofs.standing.put_rows.Given as goal

abbrev pub invariant-loop-place : goal.invariant-loop-place
invariant-loop-place g l = l.page.items ≡ l.fn.page.items ++ standing_rows (take l.place (all_parts l.rows))
