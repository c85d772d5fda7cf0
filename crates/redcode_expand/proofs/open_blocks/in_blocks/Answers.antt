use Rattle.{std.proofs.Common.{◌+◌, ◌<◌, length, Some, arith, sym, ap, ◌∙◌}, redcode_lines.specs.{Line.SourceLine, Views.line_read}}
use Rattle.{redcode_copies.specs.{Counter.in_copy, Views.with_tokens}, redcode_copies.proofs.WrittenLines.tokens-again}
use Rattle.{redcode_expand.specs.Rest.{OpenBlock}, redcode_expand.proofs.PlacedNames.{copies-on, copies-next}}
use Rattle.redcode_expand.proofs.open_blocks.in_blocks.Goals as goal

pub loop-from-preserved : goal.loop-from-preserved
loop-from-preserved g c =
    let bs = c.args.blocks.now in
    let from = c.loop-from.from in
    let count = c.unjoined-count.result in
    let line = line_read c.args.line in
    let counter = c.block.inside.counter in
    let plain = with_tokens line c.in_ok-copy.copy in
    let within : from + count < length bs = omega (arith, c.if-from-blocks.false, c.unjoined-count.ensures.within) in
    let written = sym (tokens-again line _ c.in_ok-written.written) ∙ ap (λ (l : SourceLine). with_tokens l (Some c.in_ok-written.written)) (sym c.reading_of-in-loop-from.ensures) ∙ c.in_ok-written.ensures ∙ ap (in_copy counter) c.reading_of-in-loop-from.ensures in
    let next = copies-next bs (from + count) c.index-blocks-from.result counter plain (with_tokens line (Some c.in_ok-written.written))
    within c.index-blocks-from.is (ap (λ (b : OpenBlock). b.counter) c.block.view_is) written in
    (omega (arith, within), sym (copies-on bs from count (with_tokens line c.loop-from.copy) plain c.in_ok-copy.ensures ∙ next) ∙ c.loop-from.invariant.1)
