-- What happens on sockets, and what each call of them adds.
use Rattle.std.specs.Prelude.{⊤, ℕ, ◌≤◌, Bool, true, false, List, ◌∷◌, length, take}
use Rattle.koth_service.specs.{declared.sockets.Arrival.Arrival, declared.sockets.Came.Came, declared.sockets.Went.Went}

-- The time was told, or it was told at the end of a wait, in milliseconds. A connection was accepted that has no
-- number yet; it was closed. A peer was put under a number; bytes came from it; its bytes are at their end; bytes
-- went out to it; its writing side was shut; it is gone; it isn't known to be gone; its socket was closed. A connection
-- of a browser was accepted that has no number yet; none waits, or its accept failed for now; it was closed. A browser
-- was put under its number; bytes came from it; bytes went out to it; its socket was closed.
pub data Noted : Type 0 where
  Clock : ℕ → Noted
  Waited : ℕ → Noted
  Arrived : Noted
  Refused : Noted
  Seated : ℕ → Noted
  Heard : ℕ → List ℕ → Noted
  AtEnd : ℕ → Noted
  Told : ℕ → List ℕ → Noted
  Shut : ℕ → Noted
  Lost : ℕ → Noted
  Here : ℕ → Noted
  Closed : ℕ → Noted
  Called : Noted
  Uncalled : Noted
  TurnedAway : Noted
  Admitted : ℕ → Noted
  Requested : ℕ → List ℕ → Noted
  Shown : ℕ → List ℕ → Noted
  Left : ℕ → Noted

-- nothing is added
abbrev pub Stays : {S : Type 0} → (S → List Noted → Type 0) → S → S → Type 0
Stays happened old new = (log : List Noted) → happened old log → happened new log

-- this is added
abbrev pub Adds : {S : Type 0} → (S → List Noted → Type 0) → Noted → S → S → Type 0
Adds happened what old new = (log : List Noted) → happened old log → happened new (what ∷ log)

-- a connection arrives, if one came
abbrev pub Arrives : {S : Type 0} → (S → List Noted → Type 0) → S → Arrival → S → Type 0
Arrives happened old (Arrival.Peer address) new = Adds happened Noted.Arrived old new
Arrives happened old Arrival.Nobody new = Stays happened old new
Arrives happened old Arrival.Failed new = Stays happened old new

-- a connection of a browser arrives, if one came
abbrev pub Visits : {S : Type 0} → (S → List Noted → Type 0) → S → Arrival → S → Type 0
Visits happened old (Arrival.Peer address) new = Adds happened Noted.Called old new
Visits happened old Arrival.Nobody new = Adds happened Noted.Uncalled old new
Visits happened old Arrival.Failed new = Adds happened Noted.Uncalled old new

-- what a read of a peer says is added: the bytes that came, that they are at their end, or that the peer is gone
abbrev pub Reads : {S : Type 0} → (S → List Noted → Type 0) → ℕ → S → List ℕ → Came → S → Type 0
Reads happened n old bytes (Came.Bytes count) new =
    (count ≤ length bytes) × Adds happened (Noted.Heard n (take count bytes)) old new
Reads happened n old bytes Came.End new = Adds happened (Noted.AtEnd n) old new
Reads happened n old bytes Came.Nothing new = Stays happened old new
Reads happened n old bytes Came.Gone new = Adds happened (Noted.Lost n) old new

-- whether a peer is gone is added
abbrev pub Asks : {S : Type 0} → (S → List Noted → Type 0) → ℕ → S → Bool → S → Type 0
Asks happened n old true new = Adds happened (Noted.Lost n) old new
Asks happened n old false new = Adds happened (Noted.Here n) old new

-- what a write to a peer says is added: the bytes that went out, or that the peer is gone
abbrev pub Writes : {S : Type 0} → (S → List Noted → Type 0) → ℕ → S → List ℕ → Went → S → Type 0
Writes happened n old bytes (Went.Bytes count) new =
    (count ≤ length bytes) × Adds happened (Noted.Told n (take count bytes)) old new
Writes happened n old bytes Went.Nothing new = Stays happened old new
Writes happened n old bytes Went.Gone new = Adds happened (Noted.Lost n) old new

-- the bytes that came from a browser are added
abbrev pub ReadsBrowser : {S : Type 0} → (S → List Noted → Type 0) → ℕ → S → List ℕ → Came → S
    → Type 0
ReadsBrowser happened n old bytes (Came.Bytes count) new =
    (count ≤ length bytes) × Adds happened (Noted.Requested n (take count bytes)) old new
ReadsBrowser happened n old bytes Came.End new = Stays happened old new
ReadsBrowser happened n old bytes Came.Nothing new = Stays happened old new
ReadsBrowser happened n old bytes Came.Gone new = Stays happened old new

-- the bytes that went out to a browser are added
abbrev pub WritesBrowser : {S : Type 0} → (S → List Noted → Type 0) → ℕ → S → List ℕ → Went → S
    → Type 0
WritesBrowser happened n old bytes (Went.Bytes count) new =
    (count ≤ length bytes) × Adds happened (Noted.Shown n (take count bytes)) old new
WritesBrowser happened n old bytes Went.Nothing new = Stays happened old new
WritesBrowser happened n old bytes Went.Gone new = Stays happened old new

-- For sockets that keep no history: a read or a write counts bytes that there are.
abbrev pub CameWithin : Came → List ℕ → Type 0
CameWithin (Came.Bytes count) bytes = count ≤ length bytes
CameWithin Came.End bytes = ⊤
CameWithin Came.Nothing bytes = ⊤
CameWithin Came.Gone bytes = ⊤

abbrev pub WentWithin : Went → List ℕ → Type 0
WentWithin (Went.Bytes count) bytes = count ≤ length bytes
WentWithin Went.Nothing bytes = ⊤
WentWithin Went.Gone bytes = ⊤
