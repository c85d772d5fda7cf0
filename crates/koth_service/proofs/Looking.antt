-- Whether a peer of which nothing is read is gone.
use Rattle.std.proofs.Common.{◌≢◌, true≢false, ℕ, List, ◌∷◌, Option, None, Some, IsSome, sym}
use Rattle.{sector_disk.specs.Facts.DeviceFacts, hill_store.specs.Seen.Seen, koth_session.specs.declared.peer.Peer.Peer}
use Rattle.koth_seats.specs.declared.seats.Seat.{Seat}
use Rattle.koth_service.specs.{Noted.{Adds, Noted}, Session.Session, Moment.{Happening, Start, noted}, History.Shows, Standing.{GoesOn, PeersNow, StandsAt}}
use Rattle.koth_service.{specs.declared.connections.Stage.Stage, proofs.Stages.{came_to_be, safe_on}}

-- a peer with a seat is there
pub there_by_seat : {A : Type 0} (s : Session) (slot : Option (Peer A)) (seat : Option Seat) → IsSome seat → StandsAt s slot seat → slot ≢ None
there_by_seat s None None some stands = absurd (true≢false (sym some))
there_by_seat s None (Some seat) some stands = absurd stands
there_by_seat s (Some peer) seat some stands = λ none. absurd (cc)

-- it isn't known to be gone
pub here : {S D A : Type 0} (happened : S → List Noted → Type 0) (facts : DeviceFacts D) (shows : Shows D) (start : Start D) (browsers : ℕ → Option (Stage A)) (old new : S) (peers : PeersNow A)
    (store : Seen D) (n : ℕ) → Adds happened (Noted.Here n) old new → GoesOn happened facts shows start old peers browsers store → GoesOn happened facts shows start new peers browsers store
here happened facts shows start browsers old new peers store n adds on =
    let before = on.1 in (
      Happening.On (Noted.Here n) ∷ on.0,
      came_to_be (adds (noted on.0) before.logged) (tt, before.follows) before.standing before.visiting before.now_is before.places before.seats before.ended before.round before.of_one,
      safe_on on.2,
    )
