-- Many sessions on one store: whose turn it is, and what each call leaves as it is.
use Rattle.std.specs.Prelude.{◌≡◌, ◌≢◌, ◌⊎◌, ⊤, ℕ, ◌+◌, ◌<◌, ◌≤◌, ◌==◌}
use Rattle.std.specs.Prelude.{◌&&◌, ◌||◌, Bool, true, false, not, if◌then◌else◌, List, [], length, Option, None, Some}
use Rattle.std.specs.Prelude.{IsSome, is_some, Result, Ok, Err, slice_index_or}
use Rattle.war_types.specs.declared.settings.RawSettings.{RawSettings}
use Rattle.{sector_disk.specs.Facts.DeviceFacts, hill_store.specs.{Seen.Assembled, Submission.SubmissionParts}}
use Rattle.koth_protocol.specs.Commands.{kept_source}
use Rattle.koth_session.specs.Judge.{Fight, GoesFurther, IsOfSource, Judged, fighting, without}
use Rattle.koth_session.specs.Peer.{IsNew, PutsOff, Serves, Stays, asks_now, is_due_now, may_come_now, submits_now}
use Rattle.koth_session.specs.{declared.end.PeerEnd.PeerEnd, declared.peers.NotConnected.NotConnected}
use Rattle.koth_session.specs.declared.{peer.{Peer.Peer, Unanswered.Unanswered}, peers.Step.Step, turns.Turn.Turn}

-- ---- peers by their numbers

abbrev pub Slots : Type 0 → Type 0
Slots A = List (Option (Peer A))

-- the peer of this number, if there is one
abbrev pub peer_at : {A : Type 0} → Slots A → ℕ → Option (Peer A)
peer_at slots n = slice_index_or slots n None

-- no other peer is changed, and none comes or goes
pub record OnlyAt {A : Type 0} (n : ℕ) (old new : Slots A) : Type 0 where
  pub size : length new ≡ length old
  pub others : (p : ℕ) → p ≢ n → peer_at new p ≡ peer_at old p

-- the peer of this number went from one state to another, if there is one
abbrev pub Moves : {A : Type 0} → (Peer A → Peer A → Type 0) → Option (Peer A) → Option (Peer A) → Type 0
Moves R None new = new ≡ None
Moves {A} R (Some old) new = (peer : Peer A) × (new ≡ Some peer) × R old peer

pub record MovesAt {A : Type 0} (R : Peer A → Peer A → Type 0) (n : ℕ) (old new : Slots A) : Type 0 where
  pub only : OnlyAt n old new
  pub at : Moves R (peer_at old n) (peer_at new n)

abbrev pub is_due_in : {A : Type 0} → Option (Peer A) → Bool
is_due_in None = false
is_due_in (Some peer) = is_due_now peer

abbrev pub is_due_at : {A : Type 0} → Slots A → ℕ → Bool
is_due_at slots n = is_due_in (peer_at slots n)

-- a browser's request is due
abbrev pub asks_in : {A : Type 0} → Option (Peer A) → Bool
asks_in None = false
asks_in (Some peer) = asks_now peer

abbrev pub asks_at : {A : Type 0} → Slots A → ℕ → Bool
asks_at slots n = asks_in (peer_at slots n)

abbrev pub may_come_in : {A : Type 0} → Option (Peer A) → ℕ
may_come_in None = 0
may_come_in (Some peer) = may_come_now peer

abbrev pub may_come_at : {A : Type 0} → Slots A → ℕ → ℕ
may_come_at slots n = may_come_in (peer_at slots n)

abbrev pub end_in : {A : Type 0} → Option (Peer A) → Option PeerEnd
end_in None = None
end_in (Some peer) = peer.end

-- nothing is left to be done
abbrev pub is_finished_in : {A : Type 0} → Option (Peer A) → Bool
is_finished_in None = true
is_finished_in (Some peer) = is_some peer.end && (length peer.outbox.unsent == 0)

abbrev pub unsent_in : {A : Type 0} → Option (Peer A) → List ℕ
unsent_in None = []
unsent_in (Some peer) = peer.outbox.unsent

abbrev pub unsent_at : {A : Type 0} → Slots A → ℕ → List ℕ
unsent_at slots n = unsent_in (peer_at slots n)

-- ---- whose turn it is

-- one number comes before another, if the turn begins at this one and goes round
abbrev pub ComesBefore : ℕ → ℕ → ℕ → Type 0
ComesBefore start p n = ((start ≤ p) × (p < n)) ⊎ ((n < start) × ((p < n) ⊎ (start ≤ p)))

-- Whether the turn may come to the peer of this number: while the submission of a peer is under way, only to that one,
-- and to those whose source does not wait.
abbrev pub is_beside : Option ℕ → ℕ → Bool → Bool
is_beside None n waits = true
is_beside (Some k) n waits = (n == k) || not waits

-- and a command of it is due
abbrev pub may_serve_in : {A : Type 0} → Option ℕ → ℕ → Option (Peer A) → Bool
may_serve_in busy n None = false
may_serve_in busy n (Some peer) = is_due_now peer && is_beside busy n peer.waits

abbrev pub may_serve_at : {A : Type 0} → Option ℕ → Slots A → ℕ → Bool
may_serve_at busy slots n = may_serve_in busy n (peer_at slots n)

-- A peer comes first, whoever has the turn. While a submission is under way, that is its own peer, if its share is due.
-- If none is, it is each whose source was put off.
abbrev pub goes_first : Bool → Option ℕ → ℕ → Bool → Bool
goes_first share None n waits = waits
goes_first share (Some k) n waits = share && (n == k)

abbrev pub goes_first_in : {A : Type 0} → Bool → Option ℕ → ℕ → Option (Peer A) → Bool
goes_first_in share busy n None = false
goes_first_in share busy n (Some peer) = goes_first share busy n peer.waits

abbrev pub goes_first_at : {A : Type 0} → Bool → Option ℕ → Slots A → ℕ → Bool
goes_first_at share busy slots n = goes_first_in share busy n (peer_at slots n)

-- One peer comes before another: those that come first before all others. Among these it goes round from the peer
-- whose submission was the last one, and among the others from the one that was served last.
abbrev pub IsAhead : Turn → ℕ → Bool → ℕ → Bool → Type 0
IsAhead turn p true n true = ComesBefore turn.submission p n
IsAhead turn p true n false = ⊤
IsAhead turn p false n true = ⊥
IsAhead turn p false n false = ComesBefore turn.command p n

-- it is the one that is served next: of none before it a command may be carried out
pub record IsNext {A : Type 0} (share : Bool) (busy : Option ℕ) (slots : Slots A) (turn : Turn) (n : ℕ) : Type 0 where
  pub within : n < length slots
  pub due : may_serve_at busy slots n ≡ true
  pub before : (p : ℕ) → IsAhead turn p (goes_first_at share busy slots p) n (goes_first_at share busy slots n)
      → may_serve_at busy slots p ≡ false

-- where the turns begin
abbrev pub first_turn : Turn
first_turn = record { command = 0; submission = 0 }

-- And where they go on: a peer that comes first leaves the turn where it is.
abbrev pub turn_after : Bool → ℕ → ℕ → Turn → Turn
turn_after first next submission turn =
    record { command = if first then turn.command else next; submission = submission }

-- Of private contracts alone: which peers are sought. All to which the turn may come, or of these the ones that come
-- first.
abbrev pub is_sought : Option Bool → Option ℕ → ℕ → Bool → Bool
is_sought None busy n waits = true
is_sought (Some share) busy n waits = goes_first share busy n waits

abbrev pub is_sought_in : {A : Type 0} → Option Bool → Option ℕ → ℕ → Option (Peer A) → Bool
is_sought_in first busy n None = false
is_sought_in first busy n (Some peer) = may_serve_in busy n (Some peer) && is_sought first busy n peer.waits

abbrev pub is_sought_at : {A : Type 0} → Option Bool → Option ℕ → Slots A → ℕ → Bool
is_sought_at first busy slots n = is_sought_in first busy n (peer_at slots n)

-- it is the first one from there on that is sought
pub record IsFirstDue {A : Type 0} (first : Option Bool) (busy : Option ℕ) (slots : Slots A) (start n : ℕ) : Type 0 where
  pub within : n < length slots
  pub due : is_sought_at first busy slots n ≡ true
  pub before : (p : ℕ) → ComesBefore start p n → is_sought_at first busy slots p ≡ false

abbrev pub NoneIsDueWithin : {A : Type 0} → Option Bool → Option ℕ → Slots A → ℕ → ℕ → Type 0
NoneIsDueWithin first busy slots from to =
    (p : ℕ) → from ≤ p → p < to → is_sought_at first busy slots p ≡ false

pub record IsFirstDueWithin {A : Type 0} (first : Option Bool) (busy : Option ℕ) (slots : Slots A) (from to n : ℕ)
    : Type 0 where
  pub above : from ≤ n
  pub below : n < to
  pub due : is_sought_at first busy slots n ≡ true
  pub before : NoneIsDueWithin first busy slots from n

pub record IsFirstFree {A : Type 0} (slots : Slots A) (n : ℕ) : Type 0 where
  pub within : n < length slots
  pub free : peer_at slots n ≡ None
  pub before : (p : ℕ) → p < n → IsSome (peer_at slots p)

-- ---- what a step makes of them

-- this is a submission of the source that is due of this peer
abbrev pub IsOfPeer : {A : Type 0} → RawSettings → Option (Peer A) → SubmissionParts → Type 0
IsOfPeer settings None submission = ⊥
IsOfPeer settings (Some peer) submission =
    (is_due_now peer ≡ true) × (submits_now peer ≡ true)
    × IsOfSource settings (kept_source peer.inbox.script.source) submission

-- the submission that is under way is of the source that is due of its peer
abbrev pub IsOfOne : {A : Type 0} → RawSettings → Slots A → Option Fight → Type 0
IsOfOne settings slots None = ⊤
IsOfOne settings slots (Some (n, submission)) = IsOfPeer settings (peer_at slots n) submission

-- if it is that of the peer of this number, it is of the source that is due of this peer
abbrev pub IsOfIts : {D A : Type 0} → ℕ → Peer A → Judged D → Type 0
IsOfIts n peer judge =
    (submission : SubmissionParts) → judge.under_way ≡ Some (n, submission)
    → (submits_now peer ≡ true)
    × IsOfSource judge.store.hill.settings (kept_source peer.inbox.script.source) submission

abbrev pub IsOfIn : {D A : Type 0} → ℕ → Option (Peer A) → Judged D → Type 0
IsOfIn n None judge = ⊤
IsOfIn n (Some peer) judge = IsOfIts n peer judge

-- A turn of the peer of this number: its command was carried out, or ended its session. Its submission is not under way
-- any more. If another's is, the store is the same.
pub record IsServed {D A : Type 0} (facts : DeviceFacts D) (steps : Option ℕ) (outcome : Option PeerEnd) (n : ℕ)
    (old_peer : Peer A) (old : Judged D) (new_peer : Peer A) (new : Judged D) : Type 0 where
  pub serves : Serves facts steps outcome old_peer old.store new_peer new.store
  pub under_way : new.under_way ≡ without n old.under_way
  pub beside : IsSome new.under_way → new.store ≡ old.store

-- A turn of the peer of this number: its submission was begun, or went on by a step of `turns` turns, and no other is
-- under way. The peer and the store are the same.
pub record IsStepped {D A : Type 0} (turns n : ℕ) (old_peer : Peer A) (old : Judged D) (new_peer : Peer A)
    (new : Judged D) : Type 0 where
  pub submits : submits_now old_peer ≡ true
  pub own : without n old.under_way ≡ None
  pub stays : Stays old_peer new_peer
  pub store : new.store ≡ old.store
  pub submission : SubmissionParts
  pub under_way : new.under_way ≡ Some (n, submission)
  pub further : GoesFurther turns old.store.hill.settings old.under_way submission
  pub of_source : IsOfSource old.store.hill.settings (kept_source old_peer.inbox.script.source) submission

-- A turn of the peer of this number while the submission of another is under way: its source gives a warrior, and
-- waits. Nothing else changed.
pub record IsPutOff {D A : Type 0} (n : ℕ) (old_peer : Peer A) (old : Judged D) (new_peer : Peer A)
    (new : Judged D) : Type 0 where
  pub submits : submits_now old_peer ≡ true
  pub another : IsSome (without n old.under_way)
  pub assembled : Assembled old.store (kept_source old_peer.inbox.script.source)
  pub puts_off : PutsOff old_peer new_peer
  pub same : new ≡ old

-- A turn of the peer of this number after which its command is still due.
abbrev pub IsUnanswered : {D A : Type 0} → ℕ → Unanswered → ℕ → Peer A → Judged D → Peer A → Judged D
    → Type 0
IsUnanswered turns Unanswered.UnderWay n old_peer old new_peer new = IsStepped turns n old_peer old new_peer new
IsUnanswered turns Unanswered.PutOff n old_peer old new_peer new = IsPutOff n old_peer old new_peer new

-- One peer is served: it is the next one, and no browser's request is due of it. The turns go on after it, that of
-- submissions at this number.
pub record ServesOne {D A : Type 0} (R : Peer A → Peer A → Type 0) (share : Bool) (n submission : ℕ) (old : Slots A)
    (start : Turn) (old_judge : Judged D) (new : Slots A) (next : Turn) : Type 0 where
  pub first : IsNext share (fighting old_judge.under_way) old start n
  pub taken : asks_at old n ≡ false
  pub moves : MovesAt R n old new
  pub next_is :
      next ≡ turn_after (goes_first_at share (fighting old_judge.under_way) old n) (n + 1) submission start

-- what a step reports
abbrev pub step_after : Option PeerEnd → ℕ → Step
step_after (Some PeerEnd.StoreFailed) n = Step.StoreFailed n
step_after _ n = Step.Served n

abbrev pub ServesNext : {D A : Type 0} → DeviceFacts D → Option ℕ → ℕ → Bool → Step
    → Slots A → Turn → Judged D → Slots A → Turn → Judged D → Type 0
ServesNext facts steps turns share Step.Nobody old start old_judge new next new_judge =
    ((p : ℕ) → may_serve_at (fighting old_judge.under_way) old p ≡ false) × (new ≡ old) × (next ≡ start)
    × (new_judge ≡ old_judge)
ServesNext facts steps turns share (Step.Served n) old start old_judge new next new_judge =
    (outcome : Option PeerEnd) × (step_after outcome n ≡ Step.Served n)
    × ServesOne (λ p q. IsServed facts steps outcome n p old_judge q new_judge) share n start.submission old start
    old_judge new next
ServesNext facts steps turns share (Step.Stepped n) old start old_judge new next new_judge =
    ServesOne (λ p q. IsStepped turns n p old_judge q new_judge) share n (n + 1) old start old_judge new next
ServesNext facts steps turns share (Step.PutOff n) old start old_judge new next new_judge =
    ServesOne (λ p q. IsPutOff n p old_judge q new_judge) share n start.submission old start old_judge new next
ServesNext facts steps turns share (Step.Asked n) old start old_judge new next new_judge =
    IsNext share (fighting old_judge.under_way) old start n × (asks_at old n ≡ true) × (new ≡ old)
    × (next ≡ start) × (new_judge ≡ old_judge)
ServesNext facts steps turns share (Step.StoreFailed n) old start old_judge new next new_judge =
    ServesOne (λ p q. IsServed facts steps (Some PeerEnd.StoreFailed) n p old_judge q new_judge) share n
    start.submission old start old_judge new next

-- ---- what connecting makes of them

abbrev pub Connects : {A : Type 0} → Result ℕ NotConnected → Slots A → Slots A → Type 0
Connects {A} (Ok n) old new =
    OnlyAt n old new × (n < length old) × (peer_at old n ≡ None) × ((p : ℕ) → p < n → IsSome (peer_at old p))
    × (peer : Peer A) × (peer_at new n ≡ Some peer) × IsNew peer
Connects (Err NotConnected.Full) old new = (new ≡ old) × ((p : ℕ) → p < length old → IsSome (peer_at old p))
Connects (Err NotConnected.Memory) old new = new ≡ old
