-- The numbers below have connections, and of those that may lose their slots the longest was kept.
use Rattle.std.proofs.Common.{ℕ, ◌<◌, IsSome}
use Rattle.koth_service.specs.{Connections.{LosesSlotAt, stage_at}, Places.IsLongestUpTo}
use Rattle.koth_service.proofs.connections.Browsers.slot_for_one.Given as goal

abbrev pub invariant-loop-number : goal.invariant-loop-number
invariant-loop-number g l = ((p : ℕ) → p < l.number → IsSome (stage_at l.self.connections.items p)) × IsLongestUpTo (LosesSlotAt l.fn.now l.self.connections.items) l.number l.longest
