use Rattle.{std.proofs.Common.arith, koth_session.specs.Peer.Closes, koth_session.proofs.Slots.moves_written}
use Rattle.koth_session.proofs.peers.Peers.close.Goals as goal

pub returns-then-number-len-clause-closes : goal.returns-then-number-len-clause-closes
returns-then-number-len-clause-closes g c =
    moves_written Closes c.args.number c.args.self.now.slots.items c.index_mut.result.now c.close_at.new.slot (omega arith) c.index_mut.ensures.value c.close_at.ensures
