-- The end of the peer's session, if it has one.
use Rattle.{std.proofs.Common.{◌∙◌, ap}, koth_session.specs.Peers.{end_in, peer_at}}
use Rattle.koth_session.proofs.peers.Peers.end.Goals as goal

pub returns-in-Some : goal.returns-in-Some
returns-in-Some g c = c.end.ensures ∙ ap end_in c.in-Some.ensures ∙ ap (λ slots. end_in (peer_at slots c.args.number)) c.as_slice.ensures.value

pub returns-in-None : goal.returns-in-None
returns-in-None g c = ap end_in c.in-None.ensures ∙ ap (λ slots. end_in (peer_at slots c.args.number)) c.as_slice.ensures.value
