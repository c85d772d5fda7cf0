-- One round more, and all of them.
use Rattle.redcode_diagnosis.proofs.Growing.{after, nothing}
use Rattle.redcode_diagnosis.proofs.further.put_further.Goals as goal

pub loop-init : goal.loop-init
loop-init g c = nothing _ _

pub loop-preserved : goal.loop-preserved
loop-preserved g c = after _ _ _ _ c.loop.invariant c.in_ok-next.ensures

pub returns-in_default : goal.returns-in_default
returns-in_default g c = c.loop.invariant
