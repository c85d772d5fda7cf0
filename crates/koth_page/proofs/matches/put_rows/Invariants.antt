-- The rows so far are put.
use Rattle.{std.proofs.Common.{◌≡◌, ◌++◌, take}, koth_page.specs.{Matches.matches_rows, Ranked.all_parts}}
use Rattle.koth_page.proofs.matches.put_rows.Given as goal

abbrev pub invariant-loop-place : goal.invariant-loop-place
invariant-loop-place g l = l.page.items ≡ l.fn.page.items ++ matches_rows (g.R.Results.rounds l.results) l.links (all_parts l.rows) (take l.place (all_parts l.rows))
