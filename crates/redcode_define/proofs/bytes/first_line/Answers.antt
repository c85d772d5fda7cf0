use Rattle.{std.proofs.{Common.{◌+◌, length, arith, add-one}, lemmas.List.{take_all, take_rest, drop_all}}, redcode_define.proofs.LineFeeds.{lines_of-last, lines_of-cut}}
use Rattle.redcode_define.proofs.bytes.first_line.Goals as goal

pub returns-then-byte-eq10-clause-lines : goal.returns-then-byte-eq10-clause-lines
returns-then-byte-eq10-clause-lines c =
    let source = c.args.source.now in
    rw (take_rest source (c.loop-i.i + 1), add-one) (lines_of-cut source c.loop-i.i (omega arith) c.loop-i.invariant (omega arith))

pub returns-clause-lines : goal.returns-clause-lines
returns-clause-lines c =
    let source = c.args.source.now in
    rw (c.split_at.ensures.front, c.split_at.ensures.back, take_all (length source) source (omega arith), drop_all (length source) source (omega arith)) (
    lines_of-last source c.requires (λ k h. c.loop-i.invariant k (omega arith)))
