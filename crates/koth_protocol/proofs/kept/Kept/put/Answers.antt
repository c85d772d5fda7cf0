use Rattle.{std.proofs.Common.rules, koth_protocol.proofs.Cuts.put_in}
use Rattle.koth_protocol.proofs.kept.Kept.put.Goals as goal

pub returns : goal.returns
returns g c =
    put_in c.args.self.now c.args.more.now c.extend_from_slice.new.self.items c.min-count.result c.extend_from_slice.result
    (search rules)
    (search rules)
    (search rules)
    (search rules)
