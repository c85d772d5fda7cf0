use Rattle.{std.proofs.Common.{refl, sym, ◌∙◌}, koth_session.proofs.Standing.{closed_now, none_of}}
use Rattle.koth_session.proofs.peer.Peer.close.Goals as goal

pub returns : goal.returns
returns g c =
    closed_now c.args.self.now _ (none_of c.args.self.now.end (sym c.is_some.ensures ∙ c.if-is_some.false)) c.settled-self.ensures refl refl refl refl
