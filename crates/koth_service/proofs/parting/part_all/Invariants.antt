-- It went on as it did, nobody below the number was silent for too long, and what is reported stands on standard error.
use Rattle.{std.proofs.Common.{ℕ, ◌≡◌, ◌<◌, length}, koth_service.specs.{Told.Grows, Standing.{IsAwaited, KeepsOn}}}
use Rattle.koth_service.proofs.parting.part_all.Given as goal

abbrev pub invariant-loop-number : goal.invariant-loop-number
invariant-loop-number g l = (KeepsOn g.S.Sockets.happened g.D.Device.facts (g.H.Host.shows l.fn.host) l.fn.sockets l.fn.desk l.sockets l.desk)
    × ((p : ℕ) → p < l.number → IsAwaited p l.desk) × (length l.desk.seats.seats.items ≡ length l.fn.desk.seats.seats.items)
    × Grows (g.E.Write.contents l.initial.errors) (g.E.Write.contents l.errors)
