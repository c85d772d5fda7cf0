-- The peers below the number have seats, and of those that may leave the longest was kept.
use Rattle.std.proofs.Common.{ℕ, ◌<◌, IsSome}
use Rattle.koth_seats.specs.Seats.{seat_at}
use Rattle.koth_service.specs.Places.{IsLongestUpTo, MayLeaveSince}
use Rattle.koth_service.proofs.arrivals.place_for_one.Given as goal

abbrev pub invariant-loop-number : goal.invariant-loop-number
invariant-loop-number g l = ((p : ℕ) → p < l.number → IsSome (seat_at l.desk.seats.seats.items p)) × IsLongestUpTo (MayLeaveSince l.desk) l.number l.longest
