-- Mine meets all that was found, or memory ran out.
use Rattle.koth_contests.proofs.Fought.{many_lost}
use Rattle.koth_contests.proofs.fight.meet_found.Goals as goal

pub returns-in_default : goal.returns-in_default
returns-in_default g c = many_lost _ _ c.args.fighters.now.older _ _ c.tell.result c.memory.result _ _ _ c.memory.ensures c.tell.ensures
