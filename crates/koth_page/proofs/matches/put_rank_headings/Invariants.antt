-- The headings so far are those of the rows so far.
use Rattle.{std.proofs.Common.{◌≡◌, ◌++◌, take}, std.specs.List.{enumerate_from, flat_map}, koth_page.specs.{Matches.rank_heading, Ranked.all_parts}}
use Rattle.koth_page.proofs.matches.put_rank_headings.Given as goal

abbrev pub invariant-loop-place : goal.invariant-loop-place
invariant-loop-place g l = l.page.items ≡ l.fn.page.items ++ flat_map (λ (rank, row). rank_heading rank row) (enumerate_from 1 (take l.place (all_parts l.rows)))
