-- One more, of a line that is not told.
use Rattle.std.proofs.Common.{◌∙◌, arith, sym}
use Rattle.redcode_diagnosis.proofs.Growing.{one_more}
use Rattle.redcode_diagnosis.proofs.further.put_new.Goals as goal

pub returns : goal.returns
returns g c =
    let untold = sym c.is_told.ensures ∙ c.if-is_told.false in
    one_more _ _ c.push.new.self.items _ c.in_ok-push.ensures.items c.in_ok-diagnosis.ensures.placed (omega (arith, c.len.ensures))
    (rw (c.in_ok-diagnosis.ensures.fault, sym c.as_slice.ensures.value) untold)
