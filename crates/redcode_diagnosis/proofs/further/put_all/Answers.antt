-- One more, and all of them.
use Rattle.redcode_diagnosis.proofs.Growing.{after, nothing}
use Rattle.redcode_diagnosis.proofs.further.put_all.Goals as goal

pub loop-fault-init : goal.loop-fault-init
loop-fault-init g c = nothing _ _

pub loop-fault-preserved : goal.loop-fault-preserved
loop-fault-preserved g c = after _ _ _ _ c.loop-fault.invariant c.in_ok-put_new.ensures

pub returns : goal.returns
returns g c = c.loop-fault.invariant
