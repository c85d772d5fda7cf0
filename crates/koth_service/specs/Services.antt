-- How a service begins, how its hill is opened again, and what it has done by its end.
use Rattle.std.specs.Prelude.{◌≡◌, ⊤, ℕ, ◌≤◌, false, List, [], length, Option, None, Some, Result, IfOk}
use Rattle.{war_types.specs.declared.settings.RawSettings.RawSettings, sector_disk.specs.Facts.DeviceFacts}
use Rattle.hill_store.specs.{Holding.IsHolding, Seen.Seen}
use Rattle.koth_session.specs.{Peers.{first_turn, peer_at}, declared.peers.Step.Step}
use Rattle.koth_seats.specs.Seats.{seat_at}
use Rattle.koth_service.specs.{Noted.Noted, Rounds.shares_anew, Moment.{Happening, Start, ended_in, noted}}
use Rattle.koth_service.specs.{History.{IsHistory, OpensAgain, Shows}, Held.AreHeld, Standing.{peers_of, shares_of}}
use Rattle.koth_service.specs.declared.desk.Desk.{Desk}

-- the same peers, and the hill of this device opened again
pub record IsReopened {D A : Type 0} (facts : DeviceFacts D) (old new : Desk D A) : Type 0 where
  pub peers : old.judge.under_way ≡ None → peers_of new ≡ peers_of old
  pub open_now : new.judge.store.reopen ≡ false
  pub again : OpensAgain facts old.judge.store.device new.judge.store

-- the same sessions, on the same store, or on one that was opened again if the device failed in this step
abbrev pub IsSoundAfter : {D A : Type 0} → DeviceFacts D → Step → Desk D A → Desk D A → Type 0
IsSoundAfter facts (Step.StoreFailed n) old new = IsReopened facts old new
IsSoundAfter facts _ old new = new ≡ old

-- the device did not fail in this step
abbrev pub IsWithoutFault : Step → Type 0
IsWithoutFault (Step.StoreFailed n) = ⊥
IsWithoutFault _ = ⊤

-- as many sessions have ended as were asked for
abbrev pub HaveEnded : Option ℕ → ℕ → Type 0
HaveEnded None ended = ⊥
HaveEnded (Some connections) ended = connections ≤ ended

-- it ended without a fault once as many sessions had ended as were asked for
abbrev pub EndsAsAsked : {D T F : Type 0} → Option ℕ → Result T F → List (Happening D) → Type 0
EndsAsAsked connections result history = IfOk result (λ nothing. HaveEnded connections (ended_in (noted history)))

-- What happened on the sockets, the commands that were carried out and the answers to browsers are a history of this
-- start. If its store held what some sources earn, the device held at each moment what they and the submissions
-- answered by then earn. An end without a fault comes once as many sessions have ended as were asked for.
pub record IsServed {S D T F : Type 0} (happened : S → List Noted → Type 0) (facts : DeviceFacts D)
    (shows : Shows D) (start : Start D) (connections : Option ℕ) (result : Result T F) (sockets : S)
    (history : List (Happening D)) : Type 0 where
  pub logged : happened sockets (noted history)
  pub follows : IsHistory facts shows start history
  pub held : (s : RawSettings) (before : List (List ℕ)) → IsHolding facts s before start.store
      → AreHeld facts s before start history
  pub done : EndsAsAsked connections result history

-- if nothing had happened on the sockets before
abbrev pub ServesPeers : {S D T F : Type 0} → (S → List Noted → Type 0) → DeviceFacts D → Shows D → Start D
    → Option ℕ → Result T F → S → S → Type 0
ServesPeers {S} {D} happened facts shows start connections result old new =
    happened old []
    → (history : List (Happening D)) × IsServed happened facts shows start connections result new history

-- how a service begins on this store, with room for this many peers and browsers, and on that of a desk
abbrev pub start_of : {D : Type 0} → Seen D → ℕ → ℕ → Start D
start_of store most slots = record { store = store; most = most; slots = slots }

abbrev pub start_at : {D A : Type 0} → Desk D A → Start D
start_at desk = start_of desk.judge.store (length desk.peers.slots.items) desk.limits.browsers

-- nobody is at the desk yet, and its store takes submissions
pub record IsBegun {D A : Type 0} (desk : Desk D A) : Type 0 where
  pub nobody : (p : ℕ) → peer_at desk.peers.slots.items p ≡ None
  pub no_seats : (p : ℕ) → seat_at desk.seats.seats.items p ≡ None
  pub places : length desk.seats.seats.items ≡ length desk.peers.slots.items
  pub ended : desk.sessions.ended ≡ 0
  pub turn : desk.peers.next ≡ first_turn
  pub under_way : desk.judge.under_way ≡ None
  pub clock : desk.clock ≡ 0
  pub read_at : desk.read_at ≡ 0
  pub shares : shares_of desk.shares ≡ shares_anew
  pub sound : desk.judge.store.reopen ≡ false
