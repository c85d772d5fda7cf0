-- Why a round ended as it did. Turns are counted from 1: turn n leads from the round after n - 1 turns to the round
-- after n turns.
use Rattle.std.specs.Prelude.{◌≡◌, ◌≢◌, ◌⊎◌, ℕ, ◌+◌, ◌-◌, ◌*◌, ◌<◌, ◌≤◌, List, [], ◌∷◌, length}
use Rattle.war_types.specs.{declared.instr.Instr.Instr, declared.settings.RawSettings.RawSettings, Warrior.WarriorParts}
use Rattle.mars_core.specs.{declared.round.Side.Side, declared.round.Outcome.Outcome, Cells.cell, Round.{Round, queue_of, after_turns}}
use Rattle.koth_match.specs.{Match.round_outcome, Seeds.{position, seed_of_round}}
use Rattle.koth_replay.specs.{declared.story.Fall.Fall, declared.story.Story.Story, declared.story.Writer.Writer, Replay.begun}

-- the round before turn n, and the round once it is over
abbrev pub round_before : ℕ → Round → Round
round_before n start = after_turns (n - 1) start

abbrev pub end_of : Round → Round
end_of start = after_turns (2 * start.settings.cycles) start

-- turn n leaves what the cell at an address holds
abbrev pub IsKept : Round → ℕ → ℕ → Type 0
IsKept start at n = cell (after_turns n start).core at ≡ cell (round_before n start).core at

-- no turn before turn `before` changes that cell
abbrev pub IsUntouched : Round → ℕ → ℕ → Type 0
IsUntouched start at before = (n : ℕ) → 1 ≤ n → n < before → IsKept start at n

-- of the turns before turn `before`, turn n is the last that changes that cell, and it is a turn of this side
pub record IsLastChange (start : Round) (at before : ℕ) (mover : Side) (n : ℕ) : Type 0 where
  pub least : 1 ≤ n
  pub earlier : n < before
  pub moves : mover ≡ (round_before n start).to_move
  pub changes : cell (after_turns n start).core at ≢ cell (round_before n start).core at
  pub last : (k : ℕ) → n < k → k < before → IsKept start at k

-- who changed the cell at an address last before turn `before`; or whose instruction was loaded there, if nobody did
abbrev pub IsWriter : Round → List Instr → List Instr → ℕ → ℕ → ℕ → Writer → Type 0
IsWriter start older younger position at before (Writer.Turn side turn) = IsLastChange start at before side turn
IsWriter start older younger position at before (Writer.Loaded Side.First) = IsUntouched start at before × (at < length older)
IsWriter start older younger position at before (Writer.Loaded Side.Second) =
    IsUntouched start at before × (position ≤ at) × (at < position + length younger)
IsWriter start older younger position at before Writer.Nobody =
    IsUntouched start at before × (length older ≤ at) × (at < position ⊎ position + length younger ≤ at)

-- how a round ends that this side loses
abbrev pub lost_by : Side → Outcome
lost_by Side.First = Outcome.Second
lost_by Side.Second = Outcome.First

-- a side lost a round in its last turn: before that turn the side was to move and had this one process, which was at
-- this instruction
pub record IsFall (start : Round) (older younger : List Instr) (position : ℕ) (fall : Fall) : Type 0 where
  pub turn : fall.turn ≡ (end_of start).used
  pub least : 1 ≤ fall.turn
  pub mover : fall.side ≡ (round_before fall.turn start).to_move
  pub process : queue_of fall.side (round_before fall.turn start) ≡ fall.at ∷ []
  pub instr : cell (round_before fall.turn start).core fall.at ≡ fall.instr
  pub writer : IsWriter start older younger position fall.at fall.turn fall.writer

-- how round r of a match ended, counted from 0, and why: a side lost it, or both had these numbers of processes at its
-- end
abbrev pub IsStory : RawSettings → WarriorParts → WarriorParts → ℕ → Story → Type 0
IsStory s older younger r (Story.Fell fall) =
    (round_outcome s older younger r ≡ lost_by fall.side)
    × IsFall (begun s older younger r) older.code younger.code (position s (seed_of_round s r)) fall
IsStory s older younger r (Story.Tied first second) =
    (round_outcome s older younger r ≡ Outcome.Tie)
    × (first ≡ length (end_of (begun s older younger r)).first)
    × (second ≡ length (end_of (begun s older younger r)).second)
