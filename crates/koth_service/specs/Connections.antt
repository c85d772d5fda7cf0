-- Of private contracts alone: connections of browsers by their numbers, and how they go on.
use Rattle.std.specs.Prelude.{◌≡◌, ◌⊎◌, ⊤, ℕ, ◌<◌, ◌≤◌, Bool, true, false, List, length, Option, None, Some}
use Rattle.std.specs.Prelude.{IsSome, Result, Ok, Err}
use Rattle.std.specs.{Prelude.{Vec, slice_index_or}, declared.alloc.AllocError.AllocError}
use Rattle.{sector_disk.specs.Facts.DeviceFacts, hill_store.specs.Seen.Seen}
use Rattle.koth_session.specs.{Judge.fighting, Peers.may_serve_at}
use Rattle.koth_http.specs.{Asked.IsAsked, Response.{IsPageResponse, missing, refusal_response}}
use Rattle.koth_http.specs.{declared.refusal.Refusal.Refusal, declared.target.Page.Page}
use Rattle.koth_seats.specs.{Seats.{longer, IsUnused, has_some}, declared.times.TheConstants.{UNASKED, UNHEARD}}
use Rattle.koth_service.specs.{Noted.{Adds, Noted, Stays}, Answering.{AnswersBytes, Site}, Moment.{Start, instead, moment}}
use Rattle.koth_service.specs.Places.{IsLongest}
use Rattle.koth_service.specs.{History.Shows, Standing.{GoesOn, PeersNow, peers_of, shown_to}, declared.moves.Moved.Moved}
use Rattle.koth_service.specs.{declared.connections.Browsers.Browsers, declared.connections.Connection.Connection}
use Rattle.koth_service.specs.{declared.connections.Stage.Stage, declared.desk.Desk.Desk}
use Rattle.koth_service.specs.declared.connections.Stage.TheVariants as stages

-- ---- connections by their numbers

abbrev pub Connections : Type 0 → Type 0
Connections A = List (Option (Connection A))

abbrev pub stage_in : {A : Type 0} → Option (Connection A) → Option (Stage A)
stage_in None = None
stage_in (Some connection) = Some connection.stage

-- the stage of the connection of this number, if there is one
abbrev pub stage_at : {A : Type 0} → Connections A → ℕ → Option (Stage A)
stage_at connections p = stage_in (slice_index_or connections p None)

abbrev pub IsFree : {A : Type 0} → Connections A → ℕ → Type 0
IsFree connections n = (n < length connections) × (stage_at connections n ≡ None)

-- the connection of this number is at this stage, or there is none, and the others are as they were
pub record ComesTo {A : Type 0} (n : ℕ) (stage : Option (Stage A)) (old new : Connections A) : Type 0 where
  pub size : length new ≡ length old
  pub stages : (p : ℕ) → stage_at new p ≡ instead (stage_at old) n stage p

-- ---- which connection is given to another browser

-- since when its request comes, if its slot may be given to another
abbrev pub LosesSlotSince : {A : Type 0} → ℕ → Stage A → Option ℕ → Type 0
LosesSlotSince now (Stage.Asking visit since) (Some then) =
    (then ≡ since) × IsUnused UNHEARD UNASKED now (has_some visit) since
LosesSlotSince now (Stage.Asking visit since) None = ¬ (IsUnused UNHEARD UNASKED now (has_some visit) since)
LosesSlotSince now (Stage.Asked visit) since = since ≡ None
LosesSlotSince now (Stage.Answering unsent) since = since ≡ None
LosesSlotSince now Stage.Parting since = since ≡ None

-- so it is with the connection of this number
abbrev pub LosesSlotAt : {A : Type 0} → ℕ → Connections A → ℕ → ℕ → Type 0
LosesSlotAt now connections n since =
    (visit : List ℕ) × (stage_at connections n ≡ Some (stages.Asking visit since))
    × IsUnused UNHEARD UNASKED now (has_some visit) since

abbrev pub longer_if : Option (ℕ × ℕ) → ℕ → Option ℕ → Option (ℕ × ℕ)
longer_if longest n None = longest
longer_if longest n (Some since) = longer longest n since

-- no slot is free
abbrev pub AreAllTaken : {A : Type 0} → Connections A → Type 0
AreAllTaken connections = (p : ℕ) → p < length connections → IsSome (stage_at connections p)

-- A number is given to one more that is free, or that of the connection that waited longest of those that may lose
-- their slots. None is if there is none of either.
abbrev pub MayGiveSlot : {A : Type 0} → Option ℕ → ℕ → Connections A → Type 0
MayGiveSlot None now connections =
    AreAllTaken connections × ((n since : ℕ) → ¬ (LosesSlotAt now connections n since))
MayGiveSlot (Some n) now connections =
    IsFree connections n ⊎ (AreAllTaken connections × IsLongest (LosesSlotAt now connections) n)

-- ---- one connection

-- the stage of the connection then: nothing more goes out if it is over
abbrev pub stage_after : {A : Type 0} → Moved A → Stage A
stage_after (Moved.Answered visit unsent) = stages.Answering unsent
stage_after (Moved.Next stage) = stage
stage_after (Moved.On stage) = stage
stage_after (Moved.Still stage) = stage
stage_after Moved.Over = stages.Parting

-- the connection stays at its stage, if it is kept
abbrev pub StaysAt : {A : Type 0} → Stage A → Option (Connection A) → Type 0
StaysAt stage None = ⊤
StaysAt stage (Some connection) = connection.stage ≡ stage

-- the connection's socket is closed, unless it is kept
abbrev pub ClosesUnless : {S A : Type 0} → (S → List Noted → Type 0) → ℕ → Option (Connection A) → S → S
    → Type 0
ClosesUnless happened n None old new = Adds happened (Noted.Left n) old new
ClosesUnless happened n (Some connection) old new = Stays happened old new

-- the answer to what was found of a page, or to there being no memory for it
abbrev pub IsFoundResponse : {A : Type 0} → List ℕ → Page → Result (Option (Vec ℕ A)) AllocError → Bool → List ℕ → Type 0
IsFoundResponse bytes page (Ok (Some text)) with_body answer = IsPageResponse bytes page text.items with_body answer
IsFoundResponse bytes page (Ok None) with_body answer = answer ≡ refusal_response (missing page) with_body
IsFoundResponse bytes page (Err memory) with_body answer = answer ≡ refusal_response Refusal.Unavailable with_body

-- the bytes that came are answered by what they ask, once that is known
abbrev pub AnswersOnceKnown : {A : Type 0} → Site → List ℕ → Option (Vec ℕ A) → Type 0
AnswersOnceKnown site bytes None = IsAsked site.names bytes None
AnswersOnceKnown site bytes (Some answer) = AnswersBytes site bytes answer.items

-- ---- how connections go on

-- browsers have their share
abbrev pub MayShow : {A : Type 0} → PeersNow A → Type 0
MayShow peers =
    (peers.shares.shown ≡ false)
    × ((peers.shares.shown_until ≤ peers.clock)
    ⊎ ((p : ℕ) → may_serve_at (fighting peers.under_way) peers.slots p ≡ false))

-- whether the browser of a connection was answered just now
abbrev pub is_answered : {A : Type 0} → Moved A → Bool
is_answered (Moved.Answered visit unsent) = true
is_answered (Moved.Next stage) = false
is_answered (Moved.On stage) = false
is_answered (Moved.Still stage) = false
is_answered Moved.Over = false

-- the service goes on when the connection of this number comes from one stage to another, however the peers and the
-- other browsers stand
abbrev pub MovesOn : {S D A : Type 0} → (S → List Noted → Type 0) → DeviceFacts D → Shows D → Seen D
    → ℕ → S → Option (Stage A) → S → Option (Stage A) → Type 0
MovesOn {S} {D} {A} happened facts shows store n sockets stage new_sockets new_stage =
    (start : Start D) (peers : PeersNow A) (browsers : ℕ → Option (Stage A))
    → GoesOn happened facts shows start sockets peers (instead browsers n stage) store
    → GoesOn happened facts shows start new_sockets peers (instead browsers n new_stage) store

-- the service goes on as it did, however the peers stand; the time is this one, and there are as many slots as numbers
abbrev pub BrowsersGoOn : {S D A : Type 0} → (S → List Noted → Type 0) → DeviceFacts D → Shows D → Seen D
    → ℕ → S → Browsers A → S → Browsers A → Type 0
BrowsersGoOn {S} {D} {A} happened facts shows store now sockets browsers new_sockets new_browsers =
    (start : Start D) (peers : PeersNow A) → start.slots ≡ length browsers.connections.items → peers.clock ≡ now
    → GoesOn happened facts shows start sockets peers (stage_at browsers.connections.items) store
    → GoesOn happened facts shows start new_sockets peers (stage_at new_browsers.connections.items) store

-- the same, if a browser waits for a number
abbrev pub TakesInCalled : {S D A : Type 0} → (S → List Noted → Type 0) → DeviceFacts D → Shows D → Seen D
    → ℕ → S → Browsers A → S → Browsers A → Type 0
TakesInCalled {S} {D} {A} happened facts shows store now sockets browsers new_sockets new_browsers =
    (start : Start D) (peers : PeersNow A) → start.slots ≡ length browsers.connections.items → peers.clock ≡ now
    → (on : GoesOn happened facts shows start sockets peers (stage_at browsers.connections.items) store)
    → (moment start on.0).round.calls ≡ true
    → GoesOn happened facts shows start new_sockets peers (stage_at new_browsers.connections.items) store

-- both, where a browser is answered, or isn't: it may be if browsers have their share
abbrev pub ShownOn : {S D A : Type 0} → (S → List Noted → Type 0) → DeviceFacts D → Shows D → Seen D
    → Bool → ℕ → S → Option (Stage A) → Bool → S → Option (Stage A) → Type 0
ShownOn {S} {D} {A} happened facts shows store may n sockets stage answered new_sockets new_stage =
    (start : Start D) (peers : PeersNow A) (browsers : ℕ → Option (Stage A)) → (may ≡ true → MayShow peers)
    → GoesOn happened facts shows start sockets peers (instead browsers n stage) store
    → GoesOn happened facts shows start new_sockets (shown_to answered peers) (instead browsers n new_stage) store

abbrev pub BrowsersShown : {S D A : Type 0} → (S → List Noted → Type 0) → DeviceFacts D → Shows D → Seen D
    → Bool → S → Browsers A → Bool → S → Browsers A → Type 0
BrowsersShown {S} {D} {A} happened facts shows store may sockets browsers answered new_sockets new_browsers =
    (start : Start D) (peers : PeersNow A) → (may ≡ true → MayShow peers)
    → GoesOn happened facts shows start sockets peers (stage_at browsers.connections.items) store
    → GoesOn happened facts shows start new_sockets (shown_to answered peers)
    (stage_at new_browsers.connections.items) store

-- the same, where the time is this one, and there are as many slots as numbers
abbrev pub BrowsersShownAt : {S D A : Type 0} → (S → List Noted → Type 0) → DeviceFacts D → Shows D → Seen D
    → ℕ → Bool → S → Browsers A → Bool → S → Browsers A → Type 0
BrowsersShownAt {S} {D} {A} happened facts shows store now may sockets browsers answered new_sockets new_browsers =
    (start : Start D) (peers : PeersNow A) → start.slots ≡ length browsers.connections.items → peers.clock ≡ now
    → (may ≡ true → MayShow peers)
    → GoesOn happened facts shows start sockets peers (stage_at browsers.connections.items) store
    → GoesOn happened facts shows start new_sockets (shown_to answered peers)
    (stage_at new_browsers.connections.items) store

-- the service goes on as it did, for peers and browsers
abbrev pub AllGoOn : {S D A : Type 0} → (S → List Noted → Type 0) → DeviceFacts D → Shows D → S → Desk D A
    → Browsers A → S → Desk D A → Browsers A → Type 0
AllGoOn {S} {D} {A} happened facts shows sockets desk browsers new_sockets new_desk new_browsers =
    (start : Start D) → start.slots ≡ length browsers.connections.items
    → GoesOn happened facts shows start sockets (peers_of desk) (stage_at browsers.connections.items) desk.judge.store
    → GoesOn happened facts shows start new_sockets (peers_of new_desk)
    (stage_at new_browsers.connections.items) new_desk.judge.store
