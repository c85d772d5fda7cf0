use Rattle.std.proofs.Common.{refl}
use Rattle.tests_machine.proofs.steps.stepped.Goals as goal

pub loop-steps-init : goal.loop-steps-init
loop-steps-init g c = record { under_way = c.new-challenge.ensures c.args.challenger.now; arena = refl }
