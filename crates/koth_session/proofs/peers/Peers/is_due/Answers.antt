-- Whether the peer has one due, if there is a peer.
use Rattle.{std.proofs.Common.{◌∙◌, ap}, koth_session.specs.Peers.{is_due_at, is_due_in}}
use Rattle.koth_session.proofs.peers.Peers.is_due.Goals as goal

pub returns-in-Some : goal.returns-in-Some
returns-in-Some g c = c.is_due.ensures ∙ ap is_due_in c.in-Some.ensures ∙ ap (λ slots. is_due_at slots c.args.number) c.as_slice.ensures.value

pub returns-in-None : goal.returns-in-None
returns-in-None g c = ap is_due_in c.in-None.ensures ∙ ap (λ slots. is_due_at slots c.args.number) c.as_slice.ensures.value
