-- All that came was put in, and the commands in it were answered but for those that are still due.
use Rattle.{std.proofs.Common.{◌≡◌, ◌≤◌, ◌+◌, ℕ, true, List, length}, std.specs.Io.KnownBytes.{Consumes, IsAtEnd}}
use Rattle.koth_session.{specs.{Sessions.scene, Streams.IsServing}, proofs.PeerReads.steps_left}
use Rattle.koth_session.proofs.sessions.serve.Given as goal

abbrev pub invariant-steps : goal.invariant-steps
invariant-steps g l = record {
  came : List ℕ;
  took : Consumes (g.R.Read.remaining l.fn.input.stream) (g.R.Read.remaining l.input.stream) came;
  counted : l.input.taken ≤ l.fn.input.taken + length came;
  serving : IsServing g.D.Device.facts came l.peer
      (scene (g.W.Write.contents l.fn.output.stream) l.fn.store) (scene (g.W.Write.contents l.output.stream) l.store);
  at_end : l.peer.closed ≡ true → IsAtEnd (g.R.Read.remaining l.input.stream);
  read_faults : l.input.faults ≡ l.fn.input.faults;
  write_faults : l.output.faults ≡ l.fn.output.faults;
}

abbrev pub decreases-steps : goal.decreases-steps
decreases-steps g l = steps_left l.peer
