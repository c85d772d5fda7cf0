-- Of the code alone: turns of both sides, one after the other.
use Rattle.std.specs.Prelude.{ℕ, ◌+◌, ◌*◌, ◌≡◌, ◌<◌, ◌≤◌, ◌/◌, ◌%◌, Bool, true, false, List, All}
use Rattle.{war_types.specs.{declared.instr.Instr.Instr, declared.settings.RawSettings.RawSettings, Warrior.HasNumbersBelow}, mars_core.specs.declared.round.Side.Side}
use Rattle.mars_core.specs.{Cells.{IsCore, cell}, Effect.queues, Queue.Processes, Whole.whole, Round.{Round, IsQueue, executed, side_turn}, Arena.round_in, Code.other}

-- an instruction stands at pc, in a core of `size` cells
pub record IsAt (size : ℕ) (core : List Instr) (pc : ℕ) (i : Instr) : Type 0 where
  pub wide : 2 ≤ size
  pub sound : IsCore size core
  pub inside : pc < size
  pub instr : i ≡ cell core pc
  pub numbers : HasNumbersBelow size i

-- the operation and the modifier of a kind in one number, its A mode and its B mode
abbrev pub parts_of : ℕ → ℕ × ℕ × ℕ
parts_of kind = (kind / 64, kind / 8 % 8, kind % 8)

-- the A mode and the B mode of a pair of modes
abbrev pub modes_of : ℕ → ℕ × ℕ
modes_of pair = (pair / 8, pair % 8)

-- the process at pc was executed without limits: the core that it left, and what it queued
pub record IsExecuted (size : ℕ) (core core' : List Instr) (pc : ℕ) (more : List ℕ) : Type 0 where
  pub value : executed (whole size) core pc ≡ queues core' more
  pub sound : IsCore size core'
  pub addresses : All (λ a. a < size) more

-- a turn of one side without limits: what it makes of the core and of the side's queue
pub record IsTurnMade (size : ℕ) (core core' : List Instr) (q q' : Processes) : Type 0 where
  pub left : (side_turn (whole size) q.limit core q.addresses).core ≡ core'
  pub queue : (side_turn (whole size) q.limit core q.addresses).queue ≡ q'.addresses
  pub room : IsQueue size q'.limit q'.addresses
  pub limit : q'.limit ≡ q.limit

-- a round by the queue of the side to move and by the other side's
abbrev pub round_at : Side → RawSettings → List Instr → List ℕ → List ℕ → ℕ → Round
round_at Side.First s core mover others used = round_in s core mover others Side.First used
round_at Side.Second s core mover others used = round_in s core others mover Side.Second used

-- the same after passes of these queues: after an odd number of turns the other side is to move
abbrev pub round_after : Bool → Side → RawSettings → List Instr → List ℕ → List ℕ → ℕ → Round
round_after false m s core mover others used = round_at m s core mover others used
round_after true m s core mover others used = round_at (other m) s core others mover used

-- the turns that passes leave unmade: two of each pass that wasn't begun, and the second one of a pass whose first turn
-- was the last
abbrev pub turns_left : Bool → ℕ → ℕ
turns_left false passes = 2 * passes
turns_left true passes = 2 * passes + 1
