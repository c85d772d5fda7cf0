-- The room of the peer, or none.
use Rattle.{std.proofs.Common.{◌∙◌, ap, arith}, koth_session.specs.Peers.{may_come_at, may_come_in}}
use Rattle.koth_session.proofs.peers.Peers.room.Goals as goal

pub returns-in-Some-clause-room : goal.returns-in-Some-clause-room
returns-in-Some-clause-room g c = c.room.ensures.room ∙ ap may_come_in c.in-Some.ensures ∙ ap (λ slots. may_come_at slots c.args.number) c.as_slice.ensures.value

pub returns-in-Some-clause-most : goal.returns-in-Some-clause-most
returns-in-Some-clause-most g c = omega (arith, c.room.ensures.most)

pub returns-in-None-clause-room : goal.returns-in-None-clause-room
returns-in-None-clause-room g c = ap may_come_in c.in-None.ensures ∙ ap (λ slots. may_come_at slots c.args.number) c.as_slice.ensures.value
