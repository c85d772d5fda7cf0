-- The data of a page, as JSON: the events of a round, each of them, in their order.
use Rattle.std.specs.{Prelude.{ℕ, zero, suc, List, [], ◌++◌, codes, decimal}, List.{enumerate_from, flat_map}}
use Rattle.{war_types.specs.declared.instr.Instr.Instr, mars_core.specs.declared.round.Side.Side}
use Rattle.{koth_replay.specs.{declared.event.Event.Event, declared.opening.Opening.Opening, Replay.ReplayParts}, koth_watch.specs.Instruction.instruction_text}

abbrev pub side_text : Side → List ℕ
side_text Side.First = codes "0"
side_text Side.Second = codes "1"

-- a turn by its side and the address that it executes, a cell by its address and what it holds now, a process by its
-- address
unfoldable pub turn_text : Side → ℕ → List ℕ
turn_text side at = codes "[" ++ side_text side ++ codes "," ++ decimal at ++ codes "]"

unfoldable pub cell_text : ℕ → ℕ → Instr → List ℕ
cell_text core at i = codes "[" ++ decimal at ++ codes ",\"" ++ instruction_text core i ++ codes "\"]"

abbrev pub event_text : ℕ → Event → List ℕ
event_text core (Event.Turn side at) = turn_text side at
event_text core (Event.Cell at i) = cell_text core at i
event_text core (Event.Process at) = decimal at

-- what parts the element of this place from the one before it
abbrev pub comma_before : ℕ → List ℕ
comma_before zero = []
comma_before (suc place) = codes ","

-- the event of a place in its list, and the list
abbrev pub event_at : ℕ → ℕ → Event → List ℕ
event_at core place event = comma_before place ++ event_text core event

unfoldable pub events_text : ℕ → List Event → List ℕ
events_text core es = codes "[" ++ flat_map (λ (place, event). event_at core place event) (enumerate_from 0 es) ++ codes "]"

-- the turn of a place among the turns, a line each, and all of them
unfoldable pub turn_at : ℕ → ℕ → List Event → List ℕ
turn_at core place turn = comma_before place ++ codes "\n" ++ events_text core turn

abbrev pub turns_text : ℕ → List (List Event) → List ℕ
turns_text core turns = flat_map (λ (place, turn). turn_at core place turn) (enumerate_from 0 turns)

-- how the round begins: the size of the core, where the younger warrior is loaded, both processes, and who moves first
unfoldable pub place_text : ℕ → ℕ → List ℕ
place_text core position = codes "{\"core\":" ++ decimal core ++ codes ",\"position\":" ++ decimal position

unfoldable pub processes_text : ℕ → ℕ → List ℕ
processes_text older younger = codes ",\"processes\":[" ++ decimal older ++ codes "," ++ decimal younger

unfoldable pub opening_text : Opening → List ℕ
opening_text o = place_text o.core o.position ++ processes_text o.older o.younger ++ codes "],\"first\":" ++ side_text o.first

-- what stands before the turns: how the round begins, and what is loaded
unfoldable pub start_text : Opening → List Event → List ℕ
start_text o loaded = opening_text o ++ codes ",\n\"loaded\":" ++ events_text o.core loaded ++ codes ",\n\"turns\":["

unfoldable pub data_text : ReplayParts → List ℕ
data_text r = start_text r.opening r.loaded ++ turns_text r.opening.core r.turns ++ codes "]}\n"
