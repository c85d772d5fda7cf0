use Rattle.redcode_expand.proofs.Latest.{learned}
use Rattle.redcode_expand.proofs.counts.Counts.learn.Goals as goal

pub returns : goal.returns
returns g c = learned c.self.inside.epoch c.args.copies c.args.place c.self.inside.counts.items c.args.self.now c.self.view_is
