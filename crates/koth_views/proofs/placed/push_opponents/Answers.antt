-- One row more.
use Rattle.{koth_hill.specs.Rows.{row_parts, rows_parts}, koth_text.proofs.Steps.one_part_more, koth_views.specs.Placed.opponent_cells, koth_views.proofs.Steps.{below_parts, row_at}}
use Rattle.koth_views.proofs.placed.push_opponents.Goals as goal

pub loop-i-preserved : goal.loop-i-preserved
loop-i-preserved g c =
    let rows = c.args.rows.now in
    let row = c.index-rows-i.result in
    one_part_more (opponent_cells c.args.hill.now c.args.entry) (rows_parts rows) c.loop-i.i (row_parts row) c.args.lines.now.items c.loop-i.lines.items c.push_opponent.new.lines.items
    (below_parts rows c.loop-i.i c.loop-i-test.true) (row_at rows c.loop-i.i row c.loop-i-test.true c.index-rows-i.is) c.loop-i.invariant c.in_ok-push_opponent.ensures
