-- The peer is disconnected for a cause.
use Rattle.{std.proofs.Common.{Some, ◌∙◌, ap, subst, sym}, koth_session.specs.Peers.peer_at}
use Rattle.koth_seats.specs.Seats.{seat_at}
use Rattle.koth_service.{specs.{Moment.moment, Standing.{StandsAt, peers_of}}, proofs.Causes.{by_unread, silent}}
use Rattle.koth_service.proofs.parting.part.Goals as goal

pub returns-in-Some-Unread-clause-served : goal.returns-in-Some-Unread-clause-served
returns-in-Some-Unread-clause-served g c = λ start browsers on.
    let peers = peers_of c.args.desk.now in
    c.let_go.ensures.served start browsers on
    (by_unread start.most c.args.number (moment start on.0) (peer_at peers.slots c.args.number) (seat_at peers.seats c.args.number) (on.1.standing c.args.number) (sym c.end.ensures ∙ c.in-Some-Unread.is ∙ ap Some c.in-Some-Unread.field-0-is))

pub returns-then-is_patience_over-clause-served : goal.returns-then-is_patience_over-clause-served
returns-then-is_patience_over-clause-served g c = λ start browsers on.
    let peers = peers_of c.args.desk.now in
    let m = moment start on.0 in
    let stands = subst (λ seat. StandsAt (m.sessions c.args.number) (peer_at peers.slots c.args.number) seat) (sym c.at.ensures ∙ c.in-Some.is) (on.1.standing c.args.number) in
    let is = silent c.args.number c.args.desk.now.read_at m (peer_at peers.slots c.args.number) c.in-Some.seat stands (sym c.is_due.ensures ∙ c.if-is_due.false) on.1.round.read_at
    (c.is_patience_over.ensures.0 c.if-is_patience_over.true) in
    c.let_go-then-is_patience_over.ensures.served start browsers on (is.there, is)
