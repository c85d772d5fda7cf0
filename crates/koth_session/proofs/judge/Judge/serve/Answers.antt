-- The fields are those of the value.
use Rattle.{std.proofs.Common.{IfErr, IfOk, Some, subst}, koth_session.specs.{Judge.{Judged, judged}, Peers.{IsOfIts, IsServed, IsUnanswered}}}
use Rattle.koth_session.proofs.judge.Judge.serve.Goals as goal

pub serve_at-requires-clause-submitting : goal.serve_at-requires-clause-submitting
serve_at-requires-clause-submitting g c = c.self.invariant

pub invariant_of-self : goal.invariant_of-self
invariant_of-self g c = c.serve_at.ensures.submitting

pub returns-clause-served : goal.returns-clause-served
returns-clause-served g c =
    subst (λ (j : Judged _). IsOfIts c.args.number c.args.peer.now j → IfOk c.serve_at.result (λ outcome. IsServed g.D.Device.facts (Some c.args.steps) outcome c.args.number c.args.peer.now j c.serve_at.new.peer
    (judged c.serve_at.new.store c.serve_at.new.under_way))) c.self.view_is c.serve_at.ensures.served

pub returns-clause-unanswered : goal.returns-clause-unanswered
returns-clause-unanswered g c =
    subst (λ (j : Judged _). IsOfIts c.args.number c.args.peer.now j → IfErr c.serve_at.result (λ why. IsUnanswered c.args.turns why c.args.number c.args.peer.now j c.serve_at.new.peer
    (judged c.serve_at.new.store c.serve_at.new.under_way))) c.self.view_is c.serve_at.ensures.unanswered
