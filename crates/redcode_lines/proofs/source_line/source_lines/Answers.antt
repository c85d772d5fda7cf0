use Rattle.{std.proofs.Common.arith, redcode_lines.proofs.SourceLines.line-read}
use Rattle.redcode_lines.proofs.source_line.source_lines.Goals as goal

pub loop-rest-preserved : goal.loop-rest-preserved
loop-rest-preserved g c =
    let read = line-read c.loop-rest.lines.items c.append_line.new.lines.items c.loop-rest.number c.first_line.result.0.now _ _ _ c.first_line.ensures.lines
    c.in_ok-append_line.ensures c.loop-rest.invariant.0 in
    (read.0, omega arith, omega (arith, c.first_line.ensures.shorter, c.loop-rest.invariant.2), omega (arith, read.1, c.first_line.ensures.shorter, c.loop-rest.invariant.3))
