-- What may happen in a service.
use Rattle.std.specs.Prelude.{◌≡◌, ◌⊎◌, ⊤, ℕ, ◌-◌, ◌<◌, ◌≤◌, true, false, List, []}
use Rattle.std.specs.Prelude.{◌∷◌, ◌++◌, length, Option, None, Some, IsSome}
use Rattle.sector_disk.specs.{Facts.DeviceFacts, Served.IsKept}
use Rattle.hill_store.specs.{Opened.IsOpened, Seen.{Assembled, MayBeSpent, Seen}, Submission.SubmissionParts}
use Rattle.{koth_http.specs.Asked.IsAsked, koth_protocol.specs.Commands.{Command, Reader, commands_read}}
use Rattle.koth_session.specs.{Sessions.{AreServed, IsLeftOff, KeepsCut, KeepsList}, Transcript.{Exchange, command_in}}
use Rattle.koth_session.specs.{Judge.{GoesFurther, IsOfSource, fighting, without}, Peer.IsFull, Peers.IsAhead}
use Rattle.koth_session.specs.{declared.end.PeerEnd.PeerEnd}
use Rattle.koth_seats.specs.declared.times.TheConstants.{PATIENCE, UNASKED, UNHEARD, UNSPOKEN, UNUSED}
use Rattle.koth_service.specs.{Answering.{AnswersBytes, Site}, Noted.Noted, Session.Session}
use Rattle.koth_service.specs.{Moment.{Happening, Moment, Start, answered, is_first, moment}}
use Rattle.koth_service.specs.declared.host.HowEnded.{HowEnded}

abbrev pub Begins : {T : Type 0} → List T → List T → Type 0
Begins {T} short long = (rest : List T) × (long ≡ short ++ rest)

-- ---- whose turn it is

-- no command of it is to be carried out: its session is over, or all that came were
abbrev pub HasNothingDue : Session → Type 0
HasNothingDue s = IsSome s.over ⊎ (commands_read Reader.Session s.came ≡ s.done)

-- While the submission of a peer is under way, the turn comes to its own, and to those whose source was not put off:
-- that of another is refused then, or put off.
abbrev pub IsBeside : Option ℕ → ℕ → Session → Type 0
IsBeside None p s = ⊤
IsBeside (Some k) p s = (p ≡ k) ⊎ (s.waits ≡ false)

-- no submission of another peer is under way
abbrev pub IsAlone : {D : Type 0} → ℕ → Moment D → Type 0
IsAlone n m = without n m.round.under_way ≡ None

-- The peers of which a command may be carried out at this moment: all that are there and have one due. While a
-- submission is under way, these are its own peer, of which it is the command, and those whose source was not put off.
abbrev pub MayBeServed : {D : Type 0} → Moment D → ℕ → Type 0
MayBeServed m p =
    ((m.sessions p).there ≡ true) × ¬ (HasNothingDue (m.sessions p))
    × IsBeside (fighting m.round.under_way) p (m.sessions p)

-- It is this peer's turn to have this command carried out: the command is the next one in what came, and came before
-- any request of a browser; no command ended its session; if the submission of another is under way, the command was
-- not put off; and of no peer before it one may be carried out. Those come before it that are from the one served last
-- on and going round. But before all comes the peer of the submission that is under way, if `SHARE` milliseconds had
-- gone by since its last step when this command was begun; and if none is under way, each whose source was put off,
-- from the peer of the last submission on and going round. Those leave the turn where it is.
pub record IsTurn {D : Type 0} (n : ℕ) (command : Command) (m : Moment D) : Type 0 where
  pub in_turn : (reader : Reader)
      → Begins ((m.sessions n).done ++ command ∷ []) (commands_read reader (m.sessions n).came)
  pub goes_on : (m.sessions n).over ≡ None
  pub beside : IsBeside (fighting m.round.under_way) n (m.sessions n)
  pub first : (p : ℕ) → IsAhead m.round.turn p (is_first p m) n (is_first n m) → ¬ (MayBeServed m p)

-- ---- commands that are carried out

-- No stop loses what was answered: since the store was opened the hill went on by what was carried out, and the store
-- takes submissions. If each image that a stop may leave of the device stood for the hill that some sources earn,
-- each stands for what they and the submissions answered since earn.
pub record IsSafe {D : Type 0} (facts : DeviceFacts D) (m : Moment D) : Type 0 where
  pub served : AreServed facts m.first m.now m.since
  pub open_now : m.now.reopen ≡ false
  pub holds : KeepsList facts m.first m.now m.since

-- A command of this peer was carried out in its turn. No stop loses it. While the submission of another is under way,
-- it leaves the store as it is: a source is refused then, or was not submitted.
pub record Answers {D : Type 0} (facts : DeviceFacts D) (n : ℕ) (e : Exchange) (new : Seen D)
    (m : Moment D) : Type 0 where
  pub turn : IsTurn n (command_in e) m
  pub beside : IsSome (without n m.round.under_way) → new ≡ m.now
  pub served : AreServed facts m.now new (e ∷ [])
  pub safe : IsSafe facts (answered n e new m)

-- A submission of this peer was begun or fought on in its turn, on the hill as it is, and no other is under way: it is
-- that of its source's warrior. It was fought on by the turns that the round has for a step. Nothing was answered, and
-- neither the hill nor any image of the device changed.
pub record Fights {D : Type 0} (n : ℕ) (source : List ℕ) (submission : SubmissionParts) (m : Moment D) : Type 0 where
  pub turn : IsTurn n (Command.Submit source) m
  pub alone : IsAlone n m
  pub sound : m.now.reopen ≡ false
  pub assembled : IsOfSource m.now.hill.settings source submission
  pub further : GoesFurther m.round.shares.turns m.now.hill.settings m.round.under_way submission

-- A source of this peer was put off in its turn, while the submission of another is under way: it gives a warrior, so
-- it is not refused. Nothing was answered, and neither the hill nor any image of the device changed.
pub record PutsOff {D : Type 0} (n : ℕ) (source : List ℕ) (m : Moment D) : Type 0 where
  pub turn : IsTurn n (Command.Submit source) m
  pub beside : IsSome (without n m.round.under_way)
  pub assembled : Assembled m.now source

-- The device failed in a submission of this peer in its turn, and had failed in none before: each image has what was
-- answered, with this submission or without it. No other is under way.
pub record Breaks {D : Type 0} (facts : DeviceFacts D) (n : ℕ) (source : List ℕ) (new : Seen D)
    (m : Moment D) : Type 0 where
  pub turn : IsTurn n (Command.Submit source) m
  pub alone : IsAlone n m
  pub left_off : IsLeftOff facts m.now new source
  pub safe : IsSafe facts m
  pub holds : KeepsCut facts m.first new m.since source

-- answers of a peer that are unsent leave no room for the answer to this command
abbrev pub HasNoRoom : {D : Type 0} → ℕ → Command → Moment D → Type 0
HasNoRoom n command m =
    (unsent : List ℕ) × ((m.sessions n).went ++ unsent ≡ (m.sessions n).owed) × IsFull m.now.hill command unsent

-- The command whose turn it is ended its session, and was not carried out: it is `QUIT`, or its answer may have no
-- room, or it is a source of which an assembly may spend this number of steps, or memory ran out.
abbrev pub Stops : {D : Type 0} → ℕ → ℕ → PeerEnd → Moment D → Type 0
Stops steps n PeerEnd.Quit m = IsTurn n Command.Quit m
Stops steps n PeerEnd.Unread m = (command : Command) × IsTurn n command m × HasNoRoom n command m
Stops steps n PeerEnd.StepsSpent m =
    (source : List ℕ) × IsTurn n (Command.Submit source) m × MayBeSpent (Some steps) source
Stops steps n PeerEnd.Memory m = (command : Command) × IsTurn n command m
Stops steps n _ m = ⊥

-- if a device is lawful, its hill was opened
abbrev pub OpensAgain : {D : Type 0} → DeviceFacts D → D → Seen D → Type 0
OpensAgain facts device new = facts.lawful device → IsKept facts device new.device × IsOpened facts device new

-- The hill was opened again: the device had failed in a submission, and that device was opened.
pub record Reopens {D : Type 0} (facts : DeviceFacts D) (new : Seen D) (m : Moment D) : Type 0 where
  pub failed : m.now.reopen ≡ true
  pub open_now : new.reopen ≡ false
  pub again : OpensAgain facts m.now.device new

-- what a browser is owed: its answer, once that was given
abbrev pub owed_by : Option (List ℕ) → List ℕ
owed_by None = []
owed_by (Some reply) = reply

-- what a host has of a store
abbrev pub Shows : Type 0 → Type 1
Shows D = Seen D → Site

-- Browsers have their share: none was answered since the time was told last, and since the last answer as much time has
-- gone by as that took, or no command may be carried out: none is due, and no submission is under way.
abbrev pub MayReply : {D : Type 0} → Moment D → Type 0
MayReply m =
    (m.round.shares.shown ≡ false)
    × ((m.round.shares.shown_until ≤ m.round.clock) ⊎ ((p : ℕ) → ¬ (MayBeServed m p)))

-- A browser that is there, and had no answer, is given one by the share of browsers: it answers what came from the
-- browser, by what is shown of the store as it is. The store's device has not failed.
pub record Replies {D : Type 0} (shows : Shows D) (n : ℕ) (reply : List ℕ) (m : Moment D) : Type 0 where
  pub there : (m.browsers n).there ≡ true
  pub first : (m.browsers n).reply ≡ None
  pub sound : m.now.reopen ≡ false
  pub as_asked : AnswersBytes (shows m.now) (m.browsers n).came reply
  pub share : MayReply m

-- It may be disconnected for another: it has no answer, and no byte of it came for `UNHEARD` milliseconds, or its
-- request wasn't whole for `UNASKED`.
pub record MayLoseSlot {D : Type 0} (shows : Shows D) (m : Moment D) (n : ℕ) : Type 0 where
  pub there : (m.browsers n).there ≡ true
  pub first : (m.browsers n).reply ≡ None
  pub long : (((m.browsers n).came ≡ []) × (UNHEARD ≤ m.round.clock - (m.browsers n).since))
      ⊎ (IsAsked (shows m.now).names (m.browsers n).came None × (UNASKED ≤ m.round.clock - (m.browsers n).since))

-- all slots are taken, another browser waits, and this one may be disconnected for it
pub record LosesSlot {D : Type 0} (shows : Shows D) (slots n : ℕ) (m : Moment D) : Type 0 where
  pub full : (p : ℕ) → p < slots → (m.browsers p).there ≡ true
  pub waits : m.round.calls ≡ true
  pub may : MayLoseSlot shows m n

-- ---- why a peer is disconnected

-- all that it is owed went out
abbrev pub HasAll : Session → Type 0
HasAll s = s.went ≡ s.owed

-- all its commands were carried out
abbrev pub IsThrough : Session → Type 0
IsThrough s = (reader : Reader) → commands_read reader s.came ≡ s.done

-- its session has ended: by a command, or since all its commands were carried out, and no more come or may come
abbrev pub HasEnded : Session → Type 0
HasEnded s = IsSome s.over ⊎ (IsThrough s × ((s.at_end ≡ true) ⊎ (length s.came ≡ 16777216)))

-- By the end of the last wait no byte of it had come or gone out for `PATIENCE` milliseconds, and no command of it
-- had been carried out. None is due.
pub record IsSilent {D : Type 0} (n : ℕ) (m : Moment D) : Type 0 where
  pub there : (m.sessions n).there ≡ true
  pub idle : HasNothingDue (m.sessions n)
  pub long : PATIENCE ≤ m.round.read_at - (m.sessions n).active

-- It may be disconnected for another: no command of it is due, it is not at its end, and no whole line of it came,
-- and no command of it was carried out, for `UNUSED` milliseconds; or for `UNSPOKEN`, if no byte came.
pub record MayBeDisplaced {D : Type 0} (m : Moment D) (n : ℕ) : Type 0 where
  pub there : (m.sessions n).there ≡ true
  pub idle : HasNothingDue (m.sessions n)
  pub goes_on : ¬ (HasEnded (m.sessions n) × HasAll (m.sessions n))
  pub long : (((m.sessions n).came ≡ []) × (UNSPOKEN ≤ m.round.clock - (m.sessions n).useful))
      ⊎ (UNUSED ≤ m.round.clock - (m.sessions n).useful)

-- All places are taken, another peer waits, and of those that may be disconnected for it this one was of use longest
-- ago.
pub record IsDisplaced {D : Type 0} (most n : ℕ) (m : Moment D) : Type 0 where
  pub full : (p : ℕ) → p < most → (m.sessions p).there ≡ true
  pub waits : m.round.waits ≡ true
  pub may : MayBeDisplaced m n
  pub longest : (p : ℕ) → p < most → MayBeDisplaced m p → (m.sessions n).useful ≤ (m.sessions p).useful

-- the next line is a browser's request: for a session it is a bad command, and a service finds no command there
abbrev pub AsksForPage : Session → Type 0
AsksForPage s =
    (commands_read Reader.Service s.came ≡ s.done)
    × Begins (s.done ++ Command.Bad ∷ []) (commands_read Reader.Session s.came)

-- Why a peer is disconnected. Its answers have all gone out, unless they had no room, it was silent or sent a
-- browser's request, another was given its place, or it is gone.
abbrev pub IsCause : {D : Type 0} → ℕ → ℕ → HowEnded → Moment D → Type 0
IsCause most n (HowEnded.By PeerEnd.Quit) m = ((m.sessions n).over ≡ Some PeerEnd.Quit) × HasAll (m.sessions n)
IsCause most n (HowEnded.By PeerEnd.EndOfInput) m =
    ((m.sessions n).at_end ≡ true) × IsThrough (m.sessions n) × HasAll (m.sessions n)
IsCause most n (HowEnded.By PeerEnd.Limit) m =
    (length (m.sessions n).came ≡ 16777216) × IsThrough (m.sessions n) × HasAll (m.sessions n)
IsCause most n (HowEnded.By PeerEnd.Unread) m = (m.sessions n).over ≡ Some PeerEnd.Unread
IsCause most n (HowEnded.By PeerEnd.StepsSpent) m =
    ((m.sessions n).over ≡ Some PeerEnd.StepsSpent) × HasAll (m.sessions n)
IsCause most n (HowEnded.By PeerEnd.StoreFailed) m =
    ((m.sessions n).over ≡ Some PeerEnd.StoreFailed) × HasAll (m.sessions n)
IsCause most n (HowEnded.By PeerEnd.Memory) m = ((m.sessions n).over ≡ Some PeerEnd.Memory) × HasAll (m.sessions n)
IsCause most n HowEnded.Silent m = IsSilent n m
IsCause most n HowEnded.Browser m = AsksForPage (m.sessions n)
IsCause most n HowEnded.Displaced m = IsDisplaced most n m
IsCause most n HowEnded.Gone m = (m.sessions n).lost ≡ true

-- a peer that is there may be disconnected for this cause
abbrev pub MayDisconnect : {D : Type 0} → ℕ → ℕ → HowEnded → Moment D → Type 0
MayDisconnect most n how m = ((m.sessions n).there ≡ true) × IsCause most n how m

-- ---- what may happen then

-- A number that is free, and below `start.most`, is given to a peer; or one below `start.slots` to a browser. At most
-- 16,777,216 bytes come from a peer. What goes out to a peer is the next of what it is owed, and its commands are
-- carried out in their order, one submission after the other. No wait begins while a peer that was not shut is silent
-- for too long. A peer's writing side is shut once its session has ended and all answers went out, and its socket is
-- closed for a cause. Each browser is given one answer at most, and what goes out to it is the next of that. It loses
-- its slot to another only while all are taken.
abbrev pub Follows : {D : Type 0} → DeviceFacts D → Shows D → Start D → Happening D → Moment D → Type 0
Follows facts shows start (Happening.On (Noted.Waited t)) m =
    (p : ℕ) → (m.sessions p).shut ≡ false → ¬ (IsSilent p m)
Follows facts shows start (Happening.On (Noted.Seated n)) m = ((m.sessions n).there ≡ false) × (n < start.most)
Follows facts shows start (Happening.On (Noted.Heard n bytes)) m =
    ((m.sessions n).there ≡ true) × (length ((m.sessions n).came ++ bytes) ≤ 16777216)
Follows facts shows start (Happening.On (Noted.Told n bytes)) m =
    Begins ((m.sessions n).went ++ bytes) (m.sessions n).owed
Follows facts shows start (Happening.On (Noted.Shut n)) m = HasEnded (m.sessions n) × HasAll (m.sessions n)
Follows facts shows start (Happening.On (Noted.Closed n)) m = ⊥
Follows facts shows start (Happening.On (Noted.Admitted n)) m = ((m.browsers n).there ≡ false) × (n < start.slots)
Follows facts shows start (Happening.On (Noted.Shown n bytes)) m =
    Begins ((m.browsers n).went ++ bytes) (owed_by (m.browsers n).reply)
Follows facts shows start (Happening.On _) m = ⊤
Follows facts shows start (Happening.Answered n e new) m = Answers facts n e new m
Follows facts shows start (Happening.Stopped n end) m = Stops (shows m.now).steps n end m
Follows facts shows start (Happening.Stepped n source submission) m = Fights n source submission m
Follows facts shows start (Happening.PutOff n source) m = PutsOff n source m
Follows facts shows start (Happening.CutOff n source new) m = Breaks facts n source new m
Follows facts shows start (Happening.Reopened new) m = Reopens facts new m
Follows facts shows start (Happening.Disconnected n how) m = MayDisconnect start.most n how m
Follows facts shows start (Happening.Replied n reply) m = Replies shows n reply m
Follows facts shows start (Happening.Displaced n) m = LosesSlot shows start.slots n m

-- each happening follows those before it
abbrev pub IsHistory : {D : Type 0} → DeviceFacts D → Shows D → Start D → List (Happening D) → Type 0
IsHistory facts shows start [] = ⊤
IsHistory facts shows start (what ∷ older) =
    Follows facts shows start what (moment start older) × IsHistory facts shows start older
