-- The cells so far are those of the rows so far.
use Rattle.{std.proofs.Common.{◌≡◌, ◌++◌, take}, std.specs.List.flat_map, koth_page.specs.{Matches.match_cell, Ranked.{all_parts, ranked_parts}}}
use Rattle.koth_page.proofs.matches.put_cells.Given as goal

abbrev pub invariant-loop-place : goal.invariant-loop-place
invariant-loop-place g l = l.page.items ≡ l.fn.page.items ++ flat_map (match_cell (g.R.Results.rounds l.results) l.links (ranked_parts l.row)) (take l.place (all_parts l.rows))
