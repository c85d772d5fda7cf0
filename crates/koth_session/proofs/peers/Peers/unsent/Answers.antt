-- The answers to the peer, or none.
use Rattle.{std.proofs.Common.{◌∙◌, ap}, koth_session.specs.Peers.{unsent_at, unsent_in}}
use Rattle.koth_session.proofs.peers.Peers.unsent.Goals as goal

pub returns-in-Some-clause-value : goal.returns-in-Some-clause-value
returns-in-Some-clause-value g c =
    c.unsent.ensures.value ∙ ap unsent_in c.in-Some.ensures ∙ ap (λ slots. unsent_at slots c.args.number) c.as_slice.ensures.value

pub returns-in-None-clause-value : goal.returns-in-None-clause-value
returns-in-None-clause-value g c = ap unsent_in c.in-None.ensures ∙ ap (λ slots. unsent_at slots c.args.number) c.as_slice.ensures.value
