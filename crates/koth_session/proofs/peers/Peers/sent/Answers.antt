use Rattle.{std.proofs.Common.arith, koth_session.specs.Peer.Sends, koth_session.proofs.Slots.moves_written}
use Rattle.koth_session.proofs.peers.Peers.sent.Goals as goal

pub returns-then-number-len-clause-sends : goal.returns-then-number-len-clause-sends
returns-then-number-len-clause-sends g c =
    moves_written (λ p q. Sends p c.args.count q) c.args.number c.args.self.now.slots.items c.index_mut.result.now c.pass_at.new.slot (omega arith) c.index_mut.ensures.value c.pass_at.ensures
