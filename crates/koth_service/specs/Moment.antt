-- What happens in a service: on the sockets, and the commands and answers to browsers in between. And how it stands
-- then.
use Rattle.std.specs.Prelude.{ℕ, ◌+◌, ◌==◌, Bool, true, false, if◌then◌else◌, List, [], ◌∷◌, ◌++◌}
use Rattle.{hill_store.specs.{Seen.Seen, Submission.SubmissionParts}, koth_session.specs.Transcript.{Exchange, answer, command_in}}
use Rattle.koth_session.specs.{Judge.fighting, Peers.goes_first, declared.end.PeerEnd.PeerEnd}
use Rattle.koth_service.specs.{Noted.Noted, Session.{Browser, Session, browser_anew, browser_came}}
use Rattle.koth_service.specs.Session.{browser_replied, browser_went}
use Rattle.koth_service.specs.Session.{session_anew, session_answered, session_at_end, session_came, session_lost}
use Rattle.koth_service.specs.Session.{session_over, session_put_off, session_shut, session_went}
use Rattle.koth_service.specs.Rounds.{Round, has_share, round_after, round_anew, round_at, round_calls, round_passed}
use Rattle.koth_service.specs.Rounds.{round_shown, round_stepped, round_waited, round_waits, round_without}
use Rattle.koth_service.specs.declared.host.HowEnded.{HowEnded}

-- Something happened on the sockets. A command of a peer was carried out, and this is the store then. A command that is
-- due of a peer ended its session. A submission of a peer was begun with this source, or fought on, and is this one
-- then. This source of a peer was put off, while the submission of another was under way. The device failed in a
-- submission of a peer. The hill was opened again. A peer was disconnected for this cause. A browser was given this
-- answer. Or one was disconnected for another, which is given its slot.
pub data Happening (D : Type 0) : Type 0 where
  On : Noted → Happening D
  Answered : ℕ → Exchange → Seen D → Happening D
  Stopped : ℕ → PeerEnd → Happening D
  Stepped : ℕ → List ℕ → SubmissionParts → Happening D
  PutOff : ℕ → List ℕ → Happening D
  CutOff : ℕ → List ℕ → Seen D → Happening D
  Reopened : Seen D → Happening D
  Disconnected : ℕ → HowEnded → Happening D
  Replied : ℕ → List ℕ → Happening D
  Displaced : ℕ → Happening D

-- the part of a history that was on the sockets: a peer or a browser that was disconnected had its socket closed
abbrev pub noted : {D : Type 0} → List (Happening D) → List Noted
noted [] = []
noted (Happening.On what ∷ older) = what ∷ noted older
noted (Happening.Disconnected n how ∷ older) = Noted.Closed n ∷ noted older
noted (Happening.Displaced n ∷ older) = Noted.Left n ∷ noted older
noted (_ ∷ older) = noted older

-- how many sessions have ended: as many as sockets of peers were closed
abbrev pub ended_in : List Noted → ℕ
ended_in [] = 0
ended_in (Noted.Closed n ∷ older) = ended_in older + 1
ended_in (_ ∷ older) = ended_in older

-- ---- how it stands then

-- The peers and the browsers by their numbers; the round; the store; and since it was opened last, how it was then
-- and what was carried out.
pub record Moment (D : Type 0) : Type 0 where
  pub sessions : ℕ → Session
  pub browsers : ℕ → Browser
  pub round : Round
  pub now : Seen D
  pub first : Seen D
  pub since : List Exchange

-- how a service began: on which store, and how many peers and browsers it serves at once at most
pub record Start (D : Type 0) : Type 0 where
  pub store : Seen D
  pub most : ℕ
  pub slots : ℕ

abbrev pub beginning : {D : Type 0} → Seen D → Moment D
beginning start = record {
  sessions = λ p. session_anew false 0;
  browsers = λ p. browser_anew false 0;
  round = round_anew;
  now = start;
  first = start;
  since = [];
}

abbrev pub instead : {T : Type 0} → (ℕ → T) → ℕ → T → ℕ → T
instead f n value p = if p == n then value else f p

-- one peer's part, or one browser's, or the round is another, and all else as it was
abbrev pub with_session : {D : Type 0} → ℕ → Session → Moment D → Moment D
with_session n session m = record m { sessions = instead m.sessions n session }

abbrev pub with_browser : {D : Type 0} → ℕ → Browser → Moment D → Moment D
with_browser n browser m = record m { browsers = instead m.browsers n browser }

abbrev pub with_round : {D : Type 0} → Round → Moment D → Moment D
with_round round m = record m { round = round }

-- a peer comes first then: that of the submission that is under way, by its share, or if none is, one whose source was
-- put off
abbrev pub is_first : {D : Type 0} → ℕ → Moment D → Bool
is_first n m = goes_first (has_share m.round) (fighting m.round.under_way) n (m.sessions n).waits

-- a command was carried out on the store as it was, and its answer is owed to the peer
abbrev pub answered : {D : Type 0} → ℕ → Exchange → Seen D → Moment D → Moment D
answered n e new m = record m {
  sessions = instead m.sessions n (session_answered (command_in e) (answer m.now.hill e) m.round.clock (m.sessions n));
  round = round_after (is_first n m) n m.round;
  now = new;
  since = m.since ++ e ∷ [];
}

-- a command of a peer ended its session, or the device failed in it: then the store is another
abbrev pub stopped : {D : Type 0} → ℕ → PeerEnd → Seen D → Moment D → Moment D
stopped n end new m = record m {
  sessions = instead m.sessions n (session_over end m.round.clock (m.sessions n));
  round = round_after (is_first n m) n m.round;
  now = new;
}

abbrev pub reopened : {D : Type 0} → Seen D → Moment D → Moment D
reopened new m = record m { now = new; first = new; since = [] }

-- a peer was seated
abbrev pub seated : {D : Type 0} → ℕ → Moment D → Moment D
seated n m = with_round (round_waits false m.round) (with_session n (session_anew true m.round.clock) m)

-- a browser was given a slot
abbrev pub admitted : {D : Type 0} → ℕ → Moment D → Moment D
admitted n m = with_round (round_calls false m.round) (with_browser n (browser_anew true m.round.clock) m)

abbrev pub next : {D : Type 0} → Happening D → Moment D → Moment D
next (Happening.On (Noted.Clock t)) m = with_round (round_at t m.round) m
next (Happening.On (Noted.Waited t)) m = with_round (round_waited t m.round) m
next (Happening.On Noted.Arrived) m = with_round (round_waits true m.round) m
next (Happening.On Noted.Refused) m = with_round (round_waits false m.round) m
next (Happening.On (Noted.Seated n)) m = seated n m
next (Happening.On (Noted.Heard n bytes)) m = with_session n (session_came bytes m.round.clock (m.sessions n)) m
next (Happening.On (Noted.AtEnd n)) m = with_session n (session_at_end (m.sessions n)) m
next (Happening.On (Noted.Told n bytes)) m = with_session n (session_went bytes m.round.clock (m.sessions n)) m
next (Happening.On (Noted.Shut n)) m = with_session n (session_shut (m.sessions n)) m
next (Happening.On (Noted.Lost n)) m = with_session n (session_lost (m.sessions n)) m
next (Happening.On (Noted.Here n)) m = m
next (Happening.On (Noted.Closed n)) m = m
next (Happening.On Noted.Called) m = with_round (round_calls true m.round) m
next (Happening.On Noted.Uncalled) m = m
next (Happening.On Noted.TurnedAway) m = with_round (round_calls false m.round) m
next (Happening.On (Noted.Admitted n)) m = admitted n m
next (Happening.On (Noted.Requested n bytes)) m = with_browser n (browser_came bytes (m.browsers n)) m
next (Happening.On (Noted.Shown n bytes)) m = with_browser n (browser_went bytes (m.browsers n)) m
next (Happening.On (Noted.Left n)) m = with_browser n (browser_anew false m.round.clock) m
next (Happening.Answered n e new) m = answered n e new m
next (Happening.Stopped n end) m = stopped n end m.now m
next (Happening.Stepped n source submission) m = with_round (round_stepped (is_first n m) n submission m.round) m
next (Happening.PutOff n source) m =
    with_round (round_passed (is_first n m) n m.round) (with_session n (session_put_off (m.sessions n)) m)
next (Happening.CutOff n source new) m = stopped n PeerEnd.StoreFailed new m
next (Happening.Reopened new) m = reopened new m
next (Happening.Disconnected n how) m =
    with_round (round_without n m.round) (with_session n (session_anew false m.round.clock) m)
next (Happening.Replied n reply) m =
    with_round (round_shown m.round) (with_browser n (browser_replied reply (m.browsers n)) m)
next (Happening.Displaced n) m = with_browser n (browser_anew false m.round.clock) m

-- how it stands after a history, the latest first
abbrev pub moment : {D : Type 0} → Start D → List (Happening D) → Moment D
moment start [] = beginning start.store
moment start (what ∷ older) = next what (moment start older)
