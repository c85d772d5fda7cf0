-- One chunk more, and none at the end.
use Rattle.{std.proofs.Common.{sym, ◌∙◌, append_assoc, append-nil}, koth_text.proofs.Escapes.{escaped-chunk, escaped-none}}
use Rattle.koth_text.proofs.escape.put_escaped.Goals as goal

pub loop-chunk-preserved : goal.loop-chunk-preserved
loop-chunk-preserved g c =
    let steps = c.in-Some.ensures.steps in
    let chunk = c.in-Some.chunk in
    let more = escaped-chunk _ _ chunk steps.0 steps.3.0 steps.3.1 steps.2 c.put_chunk.ensures.text in
    rw (c.in_ok-put_chunk.ensures.put, append_assoc) (rw more at c.loop-chunk.invariant)

pub returns : goal.returns
returns g c = sym (append-nil _) ∙ rw (escaped-none _ c.in-None.ensures.steps.0) at c.loop-chunk.invariant
