-- None of them has a connection yet, and they are as many as were gone through.
use Rattle.{std.proofs.Common.{◌≡◌, ℕ, None, length}, koth_service.specs.Connections.stage_at}
use Rattle.koth_service.proofs.connections.Browsers.new.Given as goal

abbrev pub invariant-loop-number : goal.invariant-loop-number
invariant-loop-number g l = ((p : ℕ) → stage_at l.connections.items p ≡ None) × (length l.connections.items ≡ l._number)
