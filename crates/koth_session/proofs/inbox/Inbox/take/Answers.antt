use Rattle.{std.proofs.{Common.{◌++◌, length, ap, arith, refl, ◌∙◌}, lemmas.List.length-append}, koth_session.proofs.Readings.more_came}
use Rattle.koth_session.proofs.inbox.Inbox.take.Goals as goal

pub returns-clause-reads : goal.returns-clause-reads
returns-clause-reads g c = λ reader came done reading.
    c.read_on.ensures.reads reader (came ++ c.args.bytes.now) done
    (more_came c.args.self.now _ c.args.bytes.now refl refl c.put.ensures refl (omega arith) reader came done reading.followed)

pub returns-clause-fewer : goal.returns-clause-fewer
returns-clause-fewer g c = λ unmet met.
    let less = c.read_on.ensures.fewer unmet met in
    let both = ap length c.put.ensures ∙ length-append c.args.self.now.waiting c.args.bytes.now in
    omega (arith, less, both)
