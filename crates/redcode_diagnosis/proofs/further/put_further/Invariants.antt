-- Those so far stand after those of before.
use Rattle.redcode_diagnosis.specs.Further.{PutsFurther}
use Rattle.redcode_diagnosis.proofs.further.put_further.Given as goal

abbrev pub invariant-loop : goal.invariant-loop
invariant-loop g l = PutsFurther l.source l.initial.all.items l.all.items
