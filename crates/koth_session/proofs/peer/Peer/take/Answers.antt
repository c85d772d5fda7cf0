use Rattle.{std.proofs.Common.{refl, sym, ◌∙◌}, koth_session.proofs.Standing.{none_of, took}}
use Rattle.koth_session.proofs.peer.Peer.take.Goals as goal

pub returns : goal.returns
returns g c =
    took c.args.self.now _ c.args.bytes.now (none_of c.args.self.now.end (sym c.is_some.ensures ∙ c.if-is_some.false)) c.settled-self.ensures refl refl refl
    c.take.ensures.reads c.take.ensures.fewer c.take.ensures.due c.take.ensures.source
