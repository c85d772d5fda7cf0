use Rattle.{std.proofs.Common.arith, koth_session.specs.Peer.Takes, koth_session.proofs.Slots.moves_written}
use Rattle.koth_session.proofs.peers.Peers.take.Goals as goal

pub returns-then-number-len-clause-takes : goal.returns-then-number-len-clause-takes
returns-then-number-len-clause-takes g c =
    moves_written (λ p q. Takes p c.args.bytes.now q) c.args.number c.args.self.now.slots.items c.index_mut.result.now c.take_at.new.slot (omega arith) c.index_mut.ensures.value c.take_at.ensures
