-- Pictures of a round, and how events change them.
use Rattle.std.specs.Prelude.{ℕ, List, [], ◌∷◌, ◌++◌, drop, slice_set}
use Rattle.{war_types.specs.declared.instr.Instr.Instr, mars_core.specs.{declared.round.Side.Side, Round.Round}, koth_replay.specs.declared.event.Event.Event}

-- what is seen of a round: what each cell holds, the processes of each side by their addresses, the front one first,
-- and the side that is to move
pub record Picture : Type 0 where
  pub cells : List Instr
  pub first : List ℕ
  pub second : List ℕ
  pub to_move : Side

abbrev pub picture : List Instr → List ℕ → List ℕ → Side → Picture
picture cells first second to_move = record { cells = cells; first = first; second = second; to_move = to_move }

-- the picture of a round as it stands
abbrev pub picture_of : Round → Picture
picture_of r = picture r.core r.first r.second r.to_move

-- a turn takes the front process of its side, and the other side is next
abbrev pub with_turn : Side → Picture → Picture
with_turn Side.First p = picture p.cells (drop 1 p.first) p.second Side.Second
with_turn Side.Second p = picture p.cells p.first (drop 1 p.second) Side.First

abbrev pub with_cell : ℕ → Instr → Picture → Picture
with_cell at i p = picture (slice_set p.cells at i) p.first p.second p.to_move

-- a process is added at the end of the queue of the side whose turn it is: the other one is to move next
abbrev pub with_process : Side → ℕ → Picture → Picture
with_process Side.First at p = picture p.cells p.first (p.second ++ at ∷ []) p.to_move
with_process Side.Second at p = picture p.cells (p.first ++ at ∷ []) p.second p.to_move

-- the picture after an event
abbrev pub after_event : Event → Picture → Picture
after_event (Event.Turn side at) p = with_turn side p
after_event (Event.Cell at i) p = with_cell at i p
after_event (Event.Process at) p = with_process p.to_move at p

-- the picture after events, the first of them first
abbrev pub drawn : Picture → List Event → Picture
drawn p [] = p
drawn p (e ∷ es) = drawn (after_event e p) es
