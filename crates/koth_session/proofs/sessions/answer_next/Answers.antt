-- A command is answered whole, or in part, or it ends its peer's session.
use Rattle.{std.proofs.Common.{length, ap, subst}, std.specs.Io.KnownBytes.Appends, koth_protocol.specs.Written.WritesPart}
use Rattle.koth_session.proofs.Streams.{answered, ended_by, write_failed}
use Rattle.koth_session.proofs.sessions.answer_next.Goals as goal

pub returns-in-Some-clause-goes : goal.returns-in-Some-clause-goes
returns-in-Some-clause-goes g c = λ came begun is.
    rw c.end_of.ensures (ended_by g.D.Device.facts c.args.steps c.in-Some.end came c.args.peer.now c.serve.new.self (g.W.Write.contents c.args.output.now.stream) begun
    c.args.store.now c.serve.new.store c.requires c.in-Some.ensures.serves is)

pub returns-in-Err-clause-goes : goal.returns-in-Err-clause-goes
returns-in-Err-clause-goes g c = λ came begun is.
    write_failed g.D.Device.facts c.args.steps came c.args.peer.now c.serve.new.self (g.W.Write.contents c.args.output.now.stream) (g.W.Write.contents c.send.new.output.stream) begun
    c.args.store.now c.serve.new.store c.requires c.in_default.ensures.serves
    (subst (WritesPart (g.W.Write.contents c.args.output.now.stream) (g.W.Write.contents c.send.new.output.stream)) c.unsent.ensures.value c.in-Err.ensures.part) is

pub returns-clause-goes : goal.returns-clause-goes
returns-clause-goes g c = λ came begun is.
    answered g.D.Device.facts c.args.steps came c.args.peer.now c.serve.new.self c.pass.new.self (g.W.Write.contents c.args.output.now.stream) (g.W.Write.contents c.send.new.output.stream)
    begun c.args.store.now c.serve.new.store (length c.unsent-count.result.now) c.in_default.ensures.serves c.pass.ensures (ap length c.unsent-count.ensures.value)
    (subst (Appends (g.W.Write.contents c.args.output.now.stream) (g.W.Write.contents c.send.new.output.stream)) c.unsent.ensures.value c.in_default-send.ensures.whole)
    is c.requires
