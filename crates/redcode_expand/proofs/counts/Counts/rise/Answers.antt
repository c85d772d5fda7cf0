use Rattle.redcode_expand.proofs.Latest.{forgotten-all}
use Rattle.redcode_expand.proofs.counts.Counts.rise.Goals as goal

pub returns : goal.returns
returns g c = forgotten-all c.self.inside.epoch c.self.inside.counts.items c.args.self.now c.self.view_is c.self.invariant
