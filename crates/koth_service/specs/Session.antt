-- How one peer, and one browser, stands in a service.
use Rattle.std.specs.Prelude.{ℕ, Bool, true, false, if◌then◌else◌, List, [], ◌∷◌, ◌++◌}
use Rattle.std.specs.Prelude.{Option, None, Some}
use Rattle.{koth_protocol.specs.Commands.Command, koth_session.specs.declared.end.PeerEnd.PeerEnd}
use Rattle.koth_seats.specs.Seats.{has_line}

-- For a peer: whether it is there, what came from it, and whether that is at its end; which of its commands were
-- carried out, and what they were answered; what went out; how a command ended its session, if one did: after that no
-- command of it is carried out. Whether its next command is a source that was put off. Whether its writing side was
-- shut, and whether the sockets said that it is gone. When it was seated, a byte came or went, or a command was carried
-- out last; and when it was seated, a whole line came, or a command was carried out last.
pub record Session : Type 0 where
  pub there : Bool
  pub came : List ℕ
  pub at_end : Bool
  pub done : List Command
  pub owed : List ℕ
  pub went : List ℕ
  pub over : Option PeerEnd
  pub waits : Bool
  pub shut : Bool
  pub lost : Bool
  pub active : ℕ
  pub useful : ℕ

-- For a browser: whether it is there, what came from it, its answer once that was given, what went out, and when it
-- came.
pub record Browser : Type 0 where
  pub there : Bool
  pub came : List ℕ
  pub reply : Option (List ℕ)
  pub went : List ℕ
  pub since : ℕ

-- a peer is there or not, and nothing came of it or went out yet
abbrev pub session_anew : Bool → ℕ → Session
session_anew is now = record {
  there = is;
  came = [];
  at_end = false;
  done = [];
  owed = [];
  went = [];
  over = None;
  waits = false;
  shut = false;
  lost = false;
  active = now;
  useful = now;
}

-- bytes of a peer came
abbrev pub session_came : List ℕ → ℕ → Session → Session
session_came bytes now s =
    record s { came = s.came ++ bytes; active = now; useful = if has_line bytes then now else s.useful }

-- no more come
abbrev pub session_at_end : Session → Session
session_at_end s = record s { at_end = true }

-- a command of it was carried out, and it is owed the answer
abbrev pub session_answered : Command → List ℕ → ℕ → Session → Session
session_answered command reply now s =
    record s { done = s.done ++ command ∷ []; owed = s.owed ++ reply; waits = false; active = now; useful = now }

-- a command of it ended the session
abbrev pub session_over : PeerEnd → ℕ → Session → Session
session_over end now s = record s { over = Some end; waits = false; active = now; useful = now }

-- its source gives a warrior, and waits now
abbrev pub session_put_off : Session → Session
session_put_off s = record s { waits = true }

-- bytes went out to it
abbrev pub session_went : List ℕ → ℕ → Session → Session
session_went bytes now s = record s { went = s.went ++ bytes; active = now }

-- its writing side was shut
abbrev pub session_shut : Session → Session
session_shut s = record s { shut = true }

-- the sockets said that it is gone
abbrev pub session_lost : Session → Session
session_lost s = record s { lost = true }

-- a browser is there or not, and nothing came of it or went out yet
abbrev pub browser_anew : Bool → ℕ → Browser
browser_anew is now = record { there = is; came = []; reply = None; went = []; since = now }

-- a browser that came then, of which these bytes came, and that was not answered
abbrev pub browser_asks : List ℕ → ℕ → Browser
browser_asks bytes since = record { there = true; came = bytes; reply = None; went = []; since = since }

-- bytes of a browser came; it was given its answer; and bytes went out to it
abbrev pub browser_came : List ℕ → Browser → Browser
browser_came bytes b = record b { came = b.came ++ bytes }

abbrev pub browser_replied : List ℕ → Browser → Browser
browser_replied reply b = record b { reply = Some reply }

abbrev pub browser_went : List ℕ → Browser → Browser
browser_went bytes b = record b { went = b.went ++ bytes }
