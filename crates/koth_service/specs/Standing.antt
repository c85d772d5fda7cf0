-- How the sessions of peers, the connections of browsers and the store stand by a history.
use Rattle.std.specs.Prelude.{◌≡◌, ◌⊎◌, ⊤, ℕ, ◌+◌, ◌≤◌, Bool, true, false, List, [], ◌++◌, length}
use Rattle.std.specs.Prelude.{Option, None, Some, IsSome}
use Rattle.{sector_disk.specs.Facts.DeviceFacts}
use Rattle.{hill_store.specs.{Seen.Seen}, koth_http.specs.Asked.IsAsked, koth_protocol.specs.Commands.Reader}
use Rattle.koth_session.specs.{Judge.Fight, Peer.IsPeer, Peers.{IsOfOne, OnlyAt, Slots}}
use Rattle.koth_session.specs.Peers.{is_due_in, peer_at}
use Rattle.koth_session.specs.declared.{end.PeerEnd.PeerEnd, peer.Peer.Peer, peers.Step.Step, turns.Turn.Turn}
use Rattle.koth_seats.specs.{Seats.{IsPatienceOver, OnlySeat, Seats, has_some, seat_at}, declared.seats.Seat.Seat}
use Rattle.koth_service.specs.Noted.{Noted}
use Rattle.koth_service.specs.{Moment.{Happening, Moment, Start, ended_in, moment, noted}, Rounds.{Round, Shares, shares_at}}
use Rattle.koth_service.specs.Rounds.{shares_shown}
use Rattle.koth_service.specs.{History.{IsHistory, IsSafe, MayDisconnect, Shows, owed_by}}
use Rattle.koth_service.specs.{Session.{Browser, Session, browser_asks}, declared.{connections.Stage.Stage, desk.{Desk.Desk, DeskShares.DeskShares}}}
use Rattle.koth_service.specs.declared.host.HowEnded.{HowEnded}

-- how a command ended a session that ended so: another end comes when all commands were carried out
abbrev pub over_by : Option PeerEnd → Option PeerEnd
over_by (Some PeerEnd.EndOfInput) = None
over_by (Some PeerEnd.Limit) = None
over_by end = end

-- a peer's session read what came, by any reader, has what is owed and did not go out, and has ended as it did
pub record Stands {A : Type 0} (s : Session) (peer : Peer A) : Type 0 where
  pub reads : (reader : Reader) → IsPeer reader peer s.came s.done
  pub owed : s.went ++ peer.outbox.unsent ≡ s.owed
  pub there : s.there ≡ true
  pub over : s.over ≡ over_by peer.end
  pub waits : s.waits ≡ peer.waits
  pub at_end : s.at_end ≡ peer.closed

-- its seat tells when something of it happened last, whether a byte came, and whether its writing side was shut
pub record IsSeatOf (s : Session) (seat : Seat) : Type 0 where
  pub active : s.active ≡ seat.active
  pub useful : s.useful ≡ seat.useful
  pub spoken : seat.has_spoken ≡ has_some s.came
  pub shut : IsSome seat.draining → s.shut ≡ true

-- a peer that is there has a seat, and a number that is free has none
abbrev pub StandsAt : {A : Type 0} → Session → Option (Peer A) → Option Seat → Type 0
StandsAt s None None = s.there ≡ false
StandsAt s None (Some seat) = ⊥
StandsAt s (Some peer) None = ⊥
StandsAt s (Some peer) (Some seat) = Stands s peer × IsSeatOf s seat

abbrev pub AreStanding : {A : Type 0} → (ℕ → Session) → Slots A → Seats → Type 0
AreStanding sessions slots seats = (p : ℕ) → StandsAt (sessions p) (peer_at slots p) (seat_at seats p)

-- A browser's connection read what came, which is no whole request yet, or is one, and was not answered; or has what is
-- owed and did not go out; or nothing more goes out to it. A number that is free has none.
abbrev pub IsAtStage : {A : Type 0} → Browser → Option (Stage A) → Type 0
IsAtStage b None = b.there ≡ false
IsAtStage b (Some (Stage.Asking visit since)) =
    (b ≡ browser_asks visit since) × ((visit ≡ []) ⊎ IsAsked [] visit None)
IsAtStage b (Some (Stage.Asked visit)) = (since : ℕ) × (b ≡ browser_asks visit since)
IsAtStage b (Some (Stage.Answering unsent)) = (b.there ≡ true) × (b.went ++ unsent ≡ owed_by b.reply)
IsAtStage b (Some Stage.Parting) = b.there ≡ true

abbrev pub AreAtStages : {A : Type 0} → (ℕ → Browser) → (ℕ → Option (Stage A)) → Type 0
AreAtStages browsers at = (p : ℕ) → IsAtStage (browsers p) (at p)

-- the peers by their numbers with their seats; how many sessions have ended at least; the turns, the submission that
-- is under way, the time, when bytes were read last, and the shares
pub record PeersNow (A : Type 0) : Type 0 where
  pub slots : Slots A
  pub seats : Seats
  pub ended : ℕ
  pub turn : Turn
  pub under_way : Option Fight
  pub clock : ℕ
  pub read_at : ℕ
  pub shares : Shares

-- no browser was answered since the time was told last
abbrev pub shares_of : DeskShares → Shares
shares_of s = record {
  stepped_at = s.stepped_at;
  turns = s.turns;
  shown = false;
  shown_until = s.shown_at + s.took;
}

abbrev pub peers_of : {D A : Type 0} → Desk D A → PeersNow A
peers_of desk = record {
  slots = desk.peers.slots.items;
  seats = desk.seats.seats.items;
  ended = desk.sessions.ended;
  turn = desk.peers.next;
  under_way = desk.judge.under_way;
  clock = desk.clock;
  read_at = desk.read_at;
  shares = shares_of desk.shares;
}

-- with other sessions and seats
abbrev pub moved_to : {A : Type 0} → Slots A → Seats → PeersNow A → PeersNow A
moved_to slots seats peers = record peers { slots = slots; seats = seats }

-- and with these turns
abbrev pub served_to : {A : Type 0} → Slots A → Seats → Turn → PeersNow A → PeersNow A
served_to slots seats turn peers = record peers { slots = slots; seats = seats; turn = turn }

-- and with this submission under way
abbrev pub fought_to : {A : Type 0} → Slots A → Seats → Turn → Option Fight → PeersNow A → PeersNow A
fought_to slots seats turn under_way peers =
    record peers { slots = slots; seats = seats; turn = turn; under_way = under_way }

-- with other shares
abbrev pub shared_to : {A : Type 0} → Shares → PeersNow A → PeersNow A
shared_to shares peers = record peers { shares = shares }

-- with an answer to a browser since the time was told last, or without
abbrev pub shares_by : Bool → Shares → Shares
shares_by false s = s
shares_by true s = shares_shown s

abbrev pub shown_to : {A : Type 0} → Bool → PeersNow A → PeersNow A
shown_to false peers = peers
shown_to true peers = record peers { shares = shares_shown peers.shares }

-- at another time, with these shares
abbrev pub told_to : {A : Type 0} → ℕ → Shares → PeersNow A → PeersNow A
told_to clock shares peers = record peers { clock = clock; shares = shares }

abbrev pub timed_to : {A : Type 0} → ℕ → ℕ → PeersNow A → PeersNow A
timed_to clock read_at peers =
    record peers { clock = clock; read_at = read_at; shares = shares_at peers.clock clock peers.shares }

-- the round has the same times, turns and shares, and the same submission is under way
pub record IsRound {A : Type 0} (round : Round) (peers : PeersNow A) : Type 0 where
  pub clock : round.clock ≡ peers.clock
  pub read_at : round.read_at ≡ peers.read_at
  pub turn : round.turn ≡ peers.turn
  pub under_way : round.under_way ≡ peers.under_way
  pub shares : round.shares ≡ peers.shares

-- the sessions, the connections and the store are as this history left them, and it is true of the sockets
pub record CameToBe {S D A : Type 0} (happened : S → List Noted → Type 0) (facts : DeviceFacts D) (shows : Shows D)
    (start : Start D) (sockets : S) (peers : PeersNow A) (browsers : ℕ → Option (Stage A)) (store : Seen D)
    (history : List (Happening D)) : Type 0 where
  pub logged : happened sockets (noted history)
  pub follows : IsHistory facts shows start history
  pub standing : AreStanding (moment start history).sessions peers.slots peers.seats
  pub visiting : AreAtStages (moment start history).browsers browsers
  pub now_is : (moment start history).now ≡ store
  pub places : length peers.slots ≡ start.most
  pub seats : length peers.seats ≡ start.most
  pub ended : peers.ended ≤ ended_in (noted history)
  pub round : IsRound (moment start history).round peers
  pub of_one : IsOfOne store.hill.settings peers.slots peers.under_way

-- as some history left them, in which the device is sound
abbrev pub GoesOn : {S D A : Type 0} → (S → List Noted → Type 0) → DeviceFacts D → Shows D → Start D
    → S → PeersNow A → (ℕ → Option (Stage A)) → Seen D → Type 0
GoesOn {S} {D} {A} happened facts shows start sockets peers browsers store =
    (history : List (Happening D)) × CameToBe happened facts shows start sockets peers browsers store history
    × IsSafe facts (moment start history)

-- as some history left them, and the device has failed: no submission is under way
abbrev pub IsCutOff : {S D A : Type 0} → (S → List Noted → Type 0) → DeviceFacts D → Shows D → Start D
    → S → PeersNow A → (ℕ → Option (Stage A)) → Seen D → Type 0
IsCutOff {S} {D} {A} happened facts shows start sockets peers browsers store =
    (history : List (Happening D)) × CameToBe happened facts shows start sockets peers browsers store history
    × (store.reopen ≡ true) × (peers.under_way ≡ None)

-- the service goes on as it did, however the browsers stand
abbrev pub KeepsOn : {S D A : Type 0} → (S → List Noted → Type 0) → DeviceFacts D → Shows D
    → S → Desk D A → S → Desk D A → Type 0
KeepsOn {S} {D} {A} happened facts shows sockets desk new_sockets new_desk =
    (start : Start D) (browsers : ℕ → Option (Stage A))
    → GoesOn happened facts shows start sockets (peers_of desk) browsers desk.judge.store
    → GoesOn happened facts shows start new_sockets (peers_of new_desk) browsers new_desk.judge.store

-- the same, if this is so at the moment to which the history led
abbrev pub KeepsOnWhere : {S D A : Type 0} → (Start D → Moment D → Type 0) → (S → List Noted → Type 0)
    → DeviceFacts D → Shows D → S → Desk D A → S → Desk D A → Type 0
KeepsOnWhere {S} {D} {A} P happened facts shows sockets desk new_sockets new_desk =
    (start : Start D) (browsers : ℕ → Option (Stage A))
    → (on : GoesOn happened facts shows start sockets (peers_of desk) browsers desk.judge.store)
    → P start (moment start on.0)
    → GoesOn happened facts shows start new_sockets (peers_of new_desk) browsers new_desk.judge.store

-- if the peer of this number may be disconnected for this cause
abbrev pub LeavesFor : {S D A : Type 0} → (S → List Noted → Type 0) → DeviceFacts D → Shows D → ℕ
    → HowEnded → S → Desk D A → S → Desk D A → Type 0
LeavesFor happened facts shows n how sockets desk new_sockets new_desk =
    KeepsOnWhere (λ start m. MayDisconnect start.most n how m) happened facts shows sockets desk new_sockets new_desk

-- if a connection waits for a number
abbrev pub KeepsOnArrived : {S D A : Type 0} → (S → List Noted → Type 0) → DeviceFacts D → Shows D
    → S → Desk D A → S → Desk D A → Type 0
KeepsOnArrived happened facts shows sockets desk new_sockets new_desk =
    KeepsOnWhere (λ start m. m.round.waits ≡ true) happened facts shows sockets desk new_sockets new_desk

abbrev pub StandsAfter : {S D A : Type 0} → (S → List Noted → Type 0) → DeviceFacts D → Shows D → Step
    → Start D → S → PeersNow A → (ℕ → Option (Stage A)) → Seen D → Type 0
StandsAfter happened facts shows (Step.StoreFailed n) start sockets peers browsers store =
    IsCutOff happened facts shows start sockets peers browsers store
StandsAfter happened facts shows _ start sockets peers browsers store =
    GoesOn happened facts shows start sockets peers browsers store

-- the service goes on as it did, however the browsers stand, unless the device failed in this step
abbrev pub KeepsOnBy : {S D A : Type 0} → (S → List Noted → Type 0) → DeviceFacts D → Shows D → Step
    → S → Desk D A → S → Desk D A → Type 0
KeepsOnBy {S} {D} {A} happened facts shows step sockets desk new_sockets new_desk =
    (start : Start D) (browsers : ℕ → Option (Stage A))
    → GoesOn happened facts shows start sockets (peers_of desk) browsers desk.judge.store
    → StandsAfter happened facts shows step start new_sockets (peers_of new_desk) browsers new_desk.judge.store

-- ---- one peer moves on

-- no other peer and no other seat is changed, and the times are the same
pub record OthersStay {D A : Type 0} (n : ℕ) (old new : Desk D A) : Type 0 where
  pub slots : OnlyAt n old.peers.slots.items new.peers.slots.items
  pub seats : OnlySeat n old.seats.seats.items new.seats.seats.items
  pub clock : new.clock ≡ old.clock
  pub read_at : new.read_at ≡ old.read_at

-- a command of it is due, or its writing side was shut, or it was not silent for too long
abbrev pub AwaitedIn : {A : Type 0} → ℕ → Option (Peer A) → Option Seat → Type 0
AwaitedIn read_at slot None = ⊤
AwaitedIn read_at slot (Some seat) =
    (is_due_in slot ≡ true) ⊎ (IsSome seat.draining ⊎ ¬ (IsPatienceOver read_at seat.active))

abbrev pub IsAwaited : {D A : Type 0} → ℕ → Desk D A → Type 0
IsAwaited n desk = AwaitedIn desk.read_at (peer_at desk.peers.slots.items n) (seat_at desk.seats.seats.items n)

-- nobody was silent for too long
abbrev pub AreAwaited : {D A : Type 0} → Desk D A → Type 0
AreAwaited desk = (p : ℕ) → IsAwaited p desk
