-- One more.
use Rattle.{koth_hill.specs.Rows.rows_parts, koth_text.proofs.Steps.one_part_more, koth_views.specs.Placed.fallen_line}
use Rattle.koth_views.proofs.placed.put_fallen_lines.Goals as goal

pub loop-i-preserved : goal.loop-i-preserved
loop-i-preserved g c =
    one_part_more (fallen_line (rows_parts c.args.rows.now)) c.args.before.now c.loop-i.i c.index-before-i.result c.args.text.now.items c.loop-i.text.items c.put_fallen_line.new.text.items c.loop-i-test.true
    c.index-before-i.is c.loop-i.invariant c.in_ok-put_fallen_line.ensures
