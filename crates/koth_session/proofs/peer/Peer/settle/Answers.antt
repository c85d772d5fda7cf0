-- The next command is looked for, or the session has ended.
use Rattle.std.proofs.Common.{refl}
use Rattle.koth_session.proofs.peer.Peer.settle.Goals as goal

pub returns-in-None : goal.returns-in-None
returns-in-None g c =
    rw c.in-None.is (record {
      unsent = refl;
      reply = refl;
      closed = refl;
      waits = refl;
      end = c.settled-self.ensures;
      reads = λ none. c.pass.ensures.reads;
      fewer = λ none. c.pass.ensures.fewer;
    })

pub returns-in-Some : goal.returns-in-Some
returns-in-Some g c =
    rw c.in-Some.is (record { unsent = refl; reply = refl; closed = refl; waits = refl; end = refl; reads = λ none. absurd (cc); fewer = λ none. absurd (cc) })
