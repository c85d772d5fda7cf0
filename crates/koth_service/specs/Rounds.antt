-- What all peers of a service share: the time, whose turn it is, and the shares of the submission and of browsers.
use Rattle.std.specs.Prelude.{ℕ, ◌+◌, ◌-◌, ◌*◌, ◌/◌, max, min, nat_le, nat_lt, Bool, true, false, if◌then◌else◌}
use Rattle.std.specs.Prelude.{Option, None, Some}
use Rattle.{hill_store.specs.Submission.SubmissionParts, koth_hill.specs.declared.challenge.TheConstants.{MOST_TURNS}}
use Rattle.koth_session.specs.{Judge.{Fight, without}, Peers.{first_turn, turn_after}, declared.turns.Turn.Turn}
use Rattle.koth_seats.specs.declared.times.TheConstants.{LONG_STEP, SHARE, SHORT_STEP}

-- When a submission was begun or fought on last, and how many turns its next step has at most. Whether a browser was
-- answered since the time was told last; and until when others have their share after the last answer to a browser: as
-- long again as that took.
pub record Shares : Type 0 where
  pub stepped_at : ℕ
  pub turns : ℕ
  pub shown : Bool
  pub shown_until : ℕ

-- The time that was told last, the one that was told before it, and that at the end of the last wait; whether a
-- connection waits for a number, and one of a browser; the numbers from which the turns go on; the submission that is
-- under way, with the number of its peer; and the shares. What was carried out before the time was told last was begun
-- after the time before it.
pub record Round : Type 0 where
  pub clock : ℕ
  pub before : ℕ
  pub read_at : ℕ
  pub waits : Bool
  pub calls : Bool
  pub turn : Turn
  pub under_way : Option Fight
  pub shares : Shares

-- at the beginning
abbrev pub shares_anew : Shares
shares_anew = record { stepped_at = 0; turns = MOST_TURNS; shown = false; shown_until = 0 }

abbrev pub round_anew : Round
round_anew = record {
  clock = 0;
  before = 0;
  read_at = 0;
  waits = false;
  calls = false;
  turn = first_turn;
  under_way = None;
  shares = shares_anew;
}

-- the time was told, which was this one before, or it was told at the end of a wait
abbrev pub shares_at : ℕ → ℕ → Shares → Shares
shares_at before now s =
    record s { shown = false; shown_until = if s.shown then now + (now - before) else s.shown_until }

abbrev pub round_at : ℕ → Round → Round
round_at t r = record r {
  clock = max r.clock t;
  before = r.clock;
  shares = shares_at r.clock (max r.clock t) r.shares;
}

abbrev pub round_waited : ℕ → Round → Round
round_waited t r = record (round_at t r) { read_at = max r.clock t }

-- a connection waits for a number, or none does
abbrev pub round_waits : Bool → Round → Round
round_waits is r = record r { waits = is }

-- one of a browser does, or none
abbrev pub round_calls : Bool → Round → Round
round_calls is r = record r { calls = is }

-- a browser was answered
abbrev pub shares_shown : Shares → Shares
shares_shown s = record s { shown = true }

abbrev pub round_shown : Round → Round
round_shown r = record r { shares = shares_shown r.shares }

-- When what was carried out last was begun, `SHARE` milliseconds had gone by since the last step of a submission.
abbrev pub has_share : Round → Bool
has_share r = nat_le SHARE (r.before - r.shares.stepped_at)

-- the submission of this peer is not under way
abbrev pub round_without : ℕ → Round → Round
round_without n r = record r { under_way = without n r.under_way }

-- and the turn goes on after this number, unless its peer came first
abbrev pub round_after : Bool → ℕ → Round → Round
round_after first n r = record r {
  turn = turn_after first (n + 1) r.turn.submission r.turn;
  under_way = without n r.under_way;
}

-- How many turns the next step has at most, after one that took this many milliseconds: half as many after a long one,
-- and twice as many after a short one. It is at least 1, and a step has one round at least.
abbrev pub turns_after : ℕ → ℕ → ℕ
turns_after took turns =
    if nat_lt LONG_STEP took then max 1 (turns / 2)
    else if nat_lt took SHORT_STEP then min MOST_TURNS (2 * turns) else turns

-- a submission is under way, with a step that took this long until now, and its turn goes on after this number, too
abbrev pub shares_stepped : ℕ → ℕ → Shares → Shares
shares_stepped now took s = record s { stepped_at = now; turns = turns_after took s.turns }

abbrev pub round_stepped : Bool → ℕ → SubmissionParts → Round → Round
round_stepped first n submission r = record r {
  turn = turn_after first (n + 1) (n + 1) r.turn;
  under_way = Some (n, submission);
  shares = shares_stepped r.clock (r.clock - r.before) r.shares;
}

-- or that of another still is, and the turn goes on after this number
abbrev pub round_passed : Bool → ℕ → Round → Round
round_passed first n r = record r { turn = turn_after first (n + 1) r.turn.submission r.turn }
