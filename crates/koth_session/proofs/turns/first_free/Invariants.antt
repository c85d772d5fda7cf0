-- None before this one is free.
use Rattle.{std.proofs.Common.{ℕ, ◌<◌, IsSome}, koth_session.specs.Peers.peer_at}
use Rattle.koth_session.proofs.turns.first_free.Given as goal

abbrev pub invariant-loop-number : goal.invariant-loop-number
invariant-loop-number g l = (p : ℕ) → p < l.number → IsSome (peer_at l.slots p)
