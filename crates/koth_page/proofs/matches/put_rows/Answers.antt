-- One row more.
use Rattle.{std.proofs.Common.{ℕ, get_or}, koth_page.specs.{Matches.matches_row, Ranked.{RankedParts, all_parts}}, koth_page.proofs.Steps.{one_row_more, row_read}}
use Rattle.koth_page.proofs.matches.put_rows.Goals as goal

pub loop-place-preserved : goal.loop-place-preserved
loop-place-preserved g c =
    let loop = c.loop-place in
    let rows = c.args.rows.now in
    let below = c.loop-place-test.true in
    one_row_more (λ (p : ℕ × RankedParts). matches_row (g.R.Results.rounds c.args.results.now) c.args.links (all_parts rows) p.0 p.1) rows loop.place (get_or rows loop.place _)
    c.args.page.now.items loop.page.items c.put_row.new.page.items below (row_read rows loop.place _ below) loop.invariant c.in_ok-put_row.ensures
