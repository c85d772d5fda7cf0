-- As many free numbers as there are slots.
use Rattle.{std.proofs.Common.{◌≡◌, ℕ, length, None}, koth_session.specs.Peers.peer_at}
use Rattle.koth_session.proofs.peers.Peers.new.Given as goal

abbrev pub invariant-slots : goal.invariant-slots
invariant-slots g l = record {
  size : length l.slots.items ≡ l._slot;
  free : (p : ℕ) → peer_at l.slots.items p ≡ None;
}
