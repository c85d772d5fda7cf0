-- One file more, and all of them at the end.
use Rattle.koth_contests.proofs.Found.{all_in, none_in, one_in}
use Rattle.koth_contests.proofs.opponents.put_found.Goals as goal

pub loop-name-init : goal.loop-name-init
loop-name-init g c = none_in _ _

pub loop-name-preserved : goal.loop-name-preserved
loop-name-preserved g c = one_in _ _ _ _ c.loop-name.invariant c.in_ok-put_file.ensures

pub returns : goal.returns
returns g c = all_in _ _ _ c.loop-name.invariant
