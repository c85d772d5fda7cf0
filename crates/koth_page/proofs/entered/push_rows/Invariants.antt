-- The rows so far are pushed.
use Rattle.{std.proofs.Common.{◌≡◌, ◌++◌, take}, koth_hill.specs.Rows.rows_parts, koth_page.specs.{Entered.entered_rows, Ranked.all_parts}}
use Rattle.koth_page.proofs.entered.push_rows.Given as goal

abbrev pub invariant-loop-place : goal.invariant-loop-place
invariant-loop-place g l = all_parts l.all.items ≡ all_parts l.fn.all.items ++ entered_rows l.hill (take l.place (rows_parts l.rows))
