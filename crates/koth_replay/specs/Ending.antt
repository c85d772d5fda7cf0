-- Of the code alone: the turn that a loop made last, and the turn that changed a cell last. No definition names a word
-- of this file.
use Rattle.std.specs.Prelude.{◌≡◌, ℕ, ◌-◌, ◌≤◌, nat_lt, false, if◌then◌else◌, slice_get, MatchOption, Option, Some, None}
use Rattle.mars_core.specs.{declared.round.Side.Side, Cells.cell, Round.{Round, is_over, queue_of, after_turn}}
use Rattle.koth_replay.specs.{declared.ending.Made.Made, declared.ending.Change.Change, declared.story.{Fall.Fall, Story.Story, Writer.Writer}, Story.{round_before, IsLastChange, IsUntouched}}

-- the front process of a side with its instruction, as what turn n would execute
pub record IsFront (mover : Side) (now : Round) (n : ℕ) (made : Made) : Type 0 where
  pub turn : made.turn ≡ n
  pub side : made.side ≡ mover
  pub front : slice_get (queue_of made.side now) 0 ≡ Some made.at
  pub instr : cell now.core made.at ≡ made.instr

-- the turn that led to this round from one that begins so
pub record IsMade (start last : Round) (made : Made) : Type 0 where
  pub turn : made.turn ≡ last.used
  pub least : 1 ≤ made.turn
  pub on : is_over (round_before made.turn start) ≡ false
  pub leads : last ≡ after_turn (round_before made.turn start)
  pub mover : made.side ≡ (round_before made.turn start).to_move
  pub front : slice_get (queue_of made.side (round_before made.turn start)) 0 ≡ Some made.at
  pub instr : cell (round_before made.turn start).core made.at ≡ made.instr

-- the last change of a cell before a turn, if there is one
abbrev pub IsChange : Round → ℕ → ℕ → Option Change → Type 0
IsChange start at before found = MatchOption found (IsUntouched start at before) (λ change. IsLastChange start at before change.side change.turn)

-- whose instruction was loaded at an address, by the lengths of both warriors and the place of the younger one
abbrev pub loader_of : ℕ → ℕ → ℕ → ℕ → Writer
loader_of older position younger at =
    if nat_lt at older then Writer.Loaded Side.First
    else if nat_lt at position then Writer.Nobody
    else if nat_lt (at - position) younger then Writer.Loaded Side.Second
    else Writer.Nobody

abbrev pub writer_of : Option Change → ℕ → ℕ → ℕ → ℕ → Writer
writer_of None older position younger at = loader_of older position younger at
writer_of (Some change) older position younger at = Writer.Turn change.side change.turn

-- the story of a round that was lost in this turn
abbrev pub fall_of : Made → Writer → Fall
fall_of made writer = record { side = made.side; turn = made.turn; at = made.at; instr = made.instr; writer = writer }

abbrev pub told : Made → Writer → Story
told made writer = Story.Fell (fall_of made writer)
