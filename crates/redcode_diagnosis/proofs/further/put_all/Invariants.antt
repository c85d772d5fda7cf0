-- Those so far stand after those of before.
use Rattle.redcode_diagnosis.specs.Further.{PutsFurther}
use Rattle.redcode_diagnosis.proofs.further.put_all.Given as goal

abbrev pub invariant-loop-fault : goal.invariant-loop-fault
invariant-loop-fault g l = PutsFurther l.source l.initial.all.items l.all.items
