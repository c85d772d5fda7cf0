-- One cell more.
use Rattle.{std.proofs.Common.get_or, koth_text.proofs.Steps.one_part_more, koth_page.specs.{Matches.match_cell, Ranked.{all_parts, ranked_parts}}, koth_page.proofs.Steps.{below_parts, row_at, row_read}}
use Rattle.koth_page.proofs.matches.put_cells.Goals as goal

pub loop-place-preserved : goal.loop-place-preserved
loop-place-preserved g c =
    let loop = c.loop-place in
    let rows = c.args.rows.now in
    let below = c.loop-place-test.true in
    one_part_more (match_cell (g.R.Results.rounds c.args.results.now) c.args.links (ranked_parts c.args.row.now)) (all_parts rows) loop.place (ranked_parts (get_or rows loop.place _)) c.args.page.now.items loop.page.items c.put_cell.new.page.items
    (below_parts rows loop.place below) (row_at rows loop.place (get_or rows loop.place _) below (row_read rows loop.place _ below)) loop.invariant c.in_ok-put_cell.ensures
