-- What is kept of each peer beside its session, by the numbers of the peers, and for how long.
use Rattle.std.specs.Prelude.{◌≡◌, ◌≢◌, ◌⊎◌, ℕ, ◌-◌, ◌≤◌, ◌==◌, ◌||◌, Bool}
use Rattle.std.specs.Prelude.{false, nat_le, not, if◌then◌else◌, List, length, Option, None, Some, slice_index_or}
use Rattle.std.specs.List.{list_any}
use Rattle.std.specs.declared.net.socket_addr.SocketAddr.{SocketAddr}
use Rattle.koth_seats.specs.declared.seats.{Draining.Draining, Seat.Seat}
use Rattle.koth_seats.specs.declared.times.TheConstants.{PATIENCE}

abbrev pub Seats : Type 0
Seats = List (Option Seat)

-- the seat of this number, if a peer has it
abbrev pub seat_at : Seats → ℕ → Option Seat
seat_at seats n = slice_index_or seats n None

-- ---- what a call makes of a seat

-- there are bytes, and a line feed is among them
abbrev pub has_some : List ℕ → Bool
has_some bytes = not (length bytes == 0)

abbrev pub has_line : List ℕ → Bool
has_line bytes = list_any (λ byte. byte == 10) bytes

-- a peer was seated
abbrev pub seat_new : SocketAddr → ℕ → Seat
seat_new address now = record { address = address; active = now; useful = now; has_spoken = false; draining = None }

-- bytes of the peer came
abbrev pub seat_heard : List ℕ → ℕ → Seat → Seat
seat_heard bytes now s = record s {
  active = now;
  useful = if has_line bytes then now else s.useful;
  has_spoken = s.has_spoken || has_some bytes;
}

-- answers went out to it
abbrev pub seat_told : ℕ → Seat → Seat
seat_told now s = record s { active = now }

-- a command of it was carried out, or ended its session
abbrev pub seat_served : ℕ → Seat → Seat
seat_served now s = record s { active = now; useful = now }

-- what still comes of it is thrown away
abbrev pub seat_drained : Draining → Seat → Seat
seat_drained draining s = record s { draining = Some draining }

abbrev pub seat_map : (Seat → Seat) → Option Seat → Option Seat
seat_map f None = None
seat_map f (Some seat) = Some (f seat)

-- no other seat is changed
pub record OnlySeat (n : ℕ) (old new : Seats) : Type 0 where
  pub size : length new ≡ length old
  pub others : (p : ℕ) → p ≢ n → seat_at new p ≡ seat_at old p

-- the seat of this number is changed so, if a peer has it
pub record SeatMoves (f : Seat → Seat) (n : ℕ) (old new : Seats) : Type 0 where
  pub only : OnlySeat n old new
  pub at : seat_at new n ≡ seat_map f (seat_at old n)

-- ---- how long a peer was silent, or of no use

abbrev pub IsPatienceOver : ℕ → ℕ → Type 0
IsPatienceOver now active = PATIENCE ≤ now - active

-- no byte came for so long, or nothing whole did for longer
abbrev pub IsUnused : ℕ → ℕ → ℕ → Bool → ℕ → Type 0
IsUnused unspoken unused now has_spoken since =
    ((has_spoken ≡ false) × (unspoken ≤ now - since)) ⊎ (unused ≤ now - since)

-- of two with their numbers the one that made use of its place longer ago
abbrev pub longer : Option (ℕ × ℕ) → ℕ → ℕ → Option (ℕ × ℕ)
longer None n since = Some (n, since)
longer (Some (k, other)) n since = if nat_le other since then Some (k, other) else Some (n, since)
