-- Turns and rounds (the 1994 draft standard, "MARS" and "Scoring"; the end of a round is this project's own).
use Rattle.std.specs.Prelude.{ℕ, ◌+◌, ◌-◌, ◌*◌, ◌<◌, ◌≤◌, zero, suc, Bool, true, false, ◌||◌, nat_le, if◌then◌else◌, List, [], ◌∷◌, ◌++◌, length, take, replicate, All}
use Rattle.war_types.specs.{declared.instr.Instr.Instr, declared.settings.RawSettings.RawSettings, Settings.AreSettings, Warrior.{WarriorParts, Fits}}
use Rattle.mars_core.specs.{declared.round.Side.Side, declared.round.Turned.Turned, declared.round.Outcome.Outcome, Cells.{IsCore, blank, cell}, Operand.{Reach, operand}, Effect.{Effect, effect}}
pub use Rattle.mars_operations.specs.Queue.{is_empty}

-- the process at pc: its instruction is copied, A is evaluated, then B on the core that A left, then the operation
unfoldable pub executed : Reach → List Instr → ℕ → Effect
executed reach core pc =
    let i = cell core pc in
    let a = operand reach core pc i.a_mode i.a in
    let b = operand reach a.core pc i.b_mode i.b in
    effect reach.size pc i.op i.modifier a.operand b.operand b.core

-- a round under its settings: the core, each side's queue, the side to move, the turns used
pub record Round : Type 0 where
  pub settings : RawSettings
  pub core : List Instr
  pub first : List ℕ
  pub second : List ℕ
  pub to_move : Side
  pub used : ℕ

-- a queue is empty, or both sides have had their cycles
abbrev pub is_over : Round → Bool
is_over r = is_empty r.first || is_empty r.second || nat_le (2 * r.settings.cycles) r.used

-- the queue of a side
abbrev pub queue_of : Side → Round → List ℕ
queue_of Side.First r = r.first
queue_of Side.Second r = r.second

-- the round after a side's turn, which left this core and this queue of its own: the other side is next
abbrev pub after_side : Side → List Instr → List ℕ → Round → Round
after_side Side.First core queue r =
    record { settings = r.settings; core = core; first = queue; second = r.second; to_move = Side.Second; used = r.used + 1 }
after_side Side.Second core queue r =
    record { settings = r.settings; core = core; first = r.first; second = queue; to_move = Side.First; used = r.used + 1 }

abbrev pub turned_by : List ℕ → Turned
turned_by [] = Turned.Died
turned_by (x ∷ xs) = Turned.Went

-- what a side's turn leaves, and how it went
pub record SideTurn : Type 0 where
  pub core : List Instr
  pub queue : List ℕ
  pub turned : Turned

abbrev pub side_turned : List Instr → List ℕ → Turned → SideTurn
side_turned core queue turned = record { core = core; queue = queue; turned = turned }

-- the front process is taken and executed, and what it queues goes after the others as far as there is room
unfoldable pub side_turn : Reach → ℕ → List Instr → List ℕ → SideTurn
side_turn reach limit core [] = side_turned core [] Turned.Over
side_turn reach limit core (pc ∷ rest) =
    let done = executed reach core pc in
    side_turned done.core (take limit (rest ++ done.queued)) (turned_by done.queued)

-- how far operands reach under settings
abbrev pub reach_of : RawSettings → Reach
reach_of s = record { size = s.core; read = s.read_limit; write = s.write_limit }

-- the turn of the side to move
abbrev pub turn_of : Round → SideTurn
turn_of r = side_turn (reach_of r.settings) r.settings.processes r.core (queue_of r.to_move r)

-- one turn; once the round is over nothing changes
unfoldable pub after_turn : Round → Round
after_turn r = if is_over r then r else after_side r.to_move (turn_of r).core (turn_of r).queue r

-- whether the round was over, and else how the turn went
unfoldable pub turned : Round → Turned
turned r = if is_over r then Turned.Over else (turn_of r).turned

-- a number of turns
unfoldable pub after_turns : ℕ → Round → Round
after_turns zero r = r
after_turns (suc n) r = after_turns n (after_turn r)

-- the side that alone has a process wins
abbrev pub outcome_of : Bool → Bool → Outcome
outcome_of false true = Outcome.First
outcome_of true false = Outcome.Second
outcome_of true true = Outcome.Tie
outcome_of false false = Outcome.Tie

abbrev pub outcome : Round → Outcome
outcome r = outcome_of (is_empty r.first) (is_empty r.second)

-- nothing loaded, and no process
abbrev pub fresh : RawSettings → Round
fresh s = record { settings = s; core = replicate s.core blank; first = []; second = []; to_move = Side.First; used = 0 }

-- the core with two warriors in it, the first at 0, the second at a position
abbrev pub loaded : ℕ → List Instr → List Instr → ℕ → List Instr
loaded size code0 code1 position = code0 ++ replicate (position - length code0) blank ++ code1 ++ replicate (size - (position + length code1)) blank

-- each warrior has one process, at its start
abbrev pub opening : RawSettings → WarriorParts → WarriorParts → ℕ → Side → Round
opening s w0 w1 position first =
    record {
      settings = s;
      core = loaded s.core w0.code w1.code position;
      first = w0.start ∷ [];
      second = (position + w1.start) ∷ [];
      to_move = first;
      used = 0;
    }

-- every address is one of the core, and there are at most `limit`
pub record IsQueue (size limit : ℕ) (queue : List ℕ) : Type 0 where
  pub room : length queue ≤ limit
  pub addresses : All (λ a. a < size) queue

-- what every arena keeps
pub record IsRound (r : Round) : Type 0 where
  pub settings : AreSettings r.settings
  pub core : IsCore r.settings.core r.core
  pub first : IsQueue r.settings.core r.settings.processes r.first
  pub second : IsQueue r.settings.core r.settings.processes r.second
  pub used : r.used ≤ 2 * r.settings.cycles

-- the warriors fit the settings, and neither lies over the other or over the end of the core
pub record CanBegin (s : RawSettings) (w0 w1 : WarriorParts) (position : ℕ) : Type 0 where
  pub first : Fits s w0
  pub second : Fits s w1
  pub apart : length w0.code ≤ position
  pub inside : position + length w1.code ≤ s.core
