-- Of private contracts alone: who may be disconnected for another, and a peer that is gone.
use Rattle.std.specs.Prelude.{◌≡◌, ◌⊎◌, ⊤, ℕ, ◌<◌, ◌≤◌, false, List, length}
use Rattle.std.specs.Prelude.{Option, None, Some, IsSome}
use Rattle.koth_session.specs.Peers.{end_in, is_due_at, is_finished_in, peer_at}
use Rattle.koth_seats.specs.{Seats.{IsUnused, seat_at}, declared.{times.TheConstants.{UNSPOKEN, UNUSED}, seats.Seat.Seat}}
use Rattle.koth_service.specs.Noted.{Adds, Noted}
use Rattle.koth_service.specs.declared.{arrivals.Place.Place, desk.Desk.Desk}

-- ---- who made no use of a place for longest

-- of those that may lose their places this one made use of its own longest ago
pub record IsLongest (May : ℕ → ℕ → Type 0) (n : ℕ) : Type 0 where
  pub since : ℕ
  pub may : May n since
  pub longest : (p other : ℕ) → May p other → since ≤ other

-- of those below this number
abbrev pub IsLongestUpTo : (ℕ → ℕ → Type 0) → ℕ → Option (ℕ × ℕ) → Type 0
IsLongestUpTo May below None = (p since : ℕ) → p < below → ¬ (May p since)
IsLongestUpTo May below (Some (n, since)) =
    May n since × ((p other : ℕ) → p < below → May p other → since ≤ other)

-- ---- a peer

-- its session goes on or answers are unsent, no command of it is due, and it is of no use
pub record MayLeave {D A : Type 0} (n : ℕ) (seat : Seat) (desk : Desk D A) : Type 0 where
  pub unused : IsUnused UNSPOKEN UNUSED desk.clock seat.has_spoken seat.useful
  pub due : is_due_at desk.peers.slots.items n ≡ false
  pub finished : is_finished_in (peer_at desk.peers.slots.items n) ≡ false

-- and it made no use of its place since then
abbrev pub MayLeaveSince : {D A : Type 0} → Desk D A → ℕ → ℕ → Type 0
MayLeaveSince desk n since =
    (seat : Seat) × (seat_at desk.seats.seats.items n ≡ Some seat) × MayLeave n seat desk × (since ≡ seat.useful)

-- no seat is free
abbrev pub AreTaken : {D A : Type 0} → Desk D A → Type 0
AreTaken desk = (p : ℕ) → p < length desk.seats.seats.items → IsSome (seat_at desk.seats.seats.items p)

abbrev pub MayGive : {D A : Type 0} → Place → Desk D A → Type 0
MayGive Place.Free desk = ⊤
MayGive (Place.Of n) desk = AreTaken desk × IsLongest (MayLeaveSince desk) n
MayGive Place.Nowhere desk = ⊤

-- the sockets say that the peer of this number isn't gone, or it is disconnected, if its session goes on
abbrev pub IsLookedAt : {S D A : Type 0} → (S → List Noted → Type 0) → ℕ → S → Desk D A → S → Desk D A
    → Type 0
IsLookedAt happened n sockets desk new_sockets new_desk =
    IsSome (seat_at desk.seats.seats.items n) → end_in (peer_at desk.peers.slots.items n) ≡ None
    → Adds happened (Noted.Here n) sockets new_sockets ⊎ (seat_at new_desk.seats.seats.items n ≡ None)
