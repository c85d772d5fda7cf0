use Rattle.{std.proofs.Common.{[], ◌∷◌, ◌++◌, refl}, koth_session.proofs.Readings.passed}
use Rattle.koth_session.proofs.inbox.Inbox.pass.Goals as goal

pub returns-clause-reads : goal.returns-clause-reads
returns-clause-reads g c = λ reader came done command reading next.
    c.read_on.ensures.reads reader came (done ++ command ∷ []) (passed c.args.self.now _ refl refl refl refl reader came done command reading.followed next)

pub returns-clause-fewer : goal.returns-clause-fewer
returns-clause-fewer g c = λ met. c.read_on.ensures.fewer refl met
