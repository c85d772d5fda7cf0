use Rattle.std.proofs.lemmas.List.{take_min}
use Rattle.koth_protocol.proofs.script.Script.source.Goals as goal

pub returns : goal.returns
returns g c = rw c.min.ensures (rw c.as_slice-source.ensures (take_min 65537 c.args.self.now.source))
