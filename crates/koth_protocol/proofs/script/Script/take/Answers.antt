use Rattle.{std.proofs.Common.refl, koth_protocol.proofs.Readings.byte_comes}
use Rattle.koth_protocol.proofs.script.Script.take.Goals as goal

pub returns-else-byte-eq10 : goal.returns-else-byte-eq10
returns-else-byte-eq10 g c = byte_comes c.args.self.now _ c.args.byte c.if-byte-eq10.false c.put.ensures refl refl
