-- The turns of a round: as text with a line for each turn, or as lines of JSON with one for each event.
use Rattle.std.specs.{Prelude.{ℕ, ◌+◌, ◌-◌, ◌==◌, Bool, true, false, if◌then◌else◌, Option, None, Some, List, [], ◌++◌, length, codes, decimal, slice_get, slice_index_or}, List.{flat_map, range_with_len}}
use Rattle.{war_types.specs.declared.instr.Instr.Instr, mars_core.specs.{declared.round.Side.Side, Cells.{blank, cell}, Round.{Round, after_turns}}}
use Rattle.koth_replay.specs.declared.{event.Event.Event, story.{Story.Story, Writer.Writer}}
use Rattle.{koth_watch.specs.{declared.shown.Form.Form as Place, Shown.instruction_shown}, koth_words.specs.declared.requests.Form.Form, koth_contests.specs.Rounds.side_name}

-- ---- the line of a turn

-- whose turn it is, and the instruction that it executes, with its address
unfoldable pub turn_told : ℕ → Instr → Side → ℕ → List ℕ
turn_told core i side at = codes " " ++ side_name side ++ codes " " ++ decimal at ++ codes " " ++ instruction_shown Place.Plain core i

-- a cell that it changes
unfoldable pub cell_told : ℕ → ℕ → Instr → List ℕ
cell_told core at now = codes "  writes " ++ decimal at ++ codes " " ++ instruction_shown Place.Plain core now

-- a process that it adds
unfoldable pub process_told : ℕ → List ℕ
process_told at = codes "  goes to " ++ decimal at

abbrev pub event_told : ℕ → Instr → Event → List ℕ
event_told core i (Event.Turn side at) = turn_told core i side at
event_told core i (Event.Cell at now) = cell_told core at now
event_told core i (Event.Process at) = process_told at

-- whether a turn adds a process: that is the last of its events then
abbrev pub is_process : Option Event → Bool
is_process None = false
is_process (Some (Event.Turn side at)) = false
is_process (Some (Event.Cell at now)) = false
is_process (Some (Event.Process at)) = true

abbrev pub adds_process : List Event → Bool
adds_process events = is_process (slice_get events (length events - 1))

-- if it adds none, its own process has ended
abbrev pub end_told : List Event → List ℕ
end_told events = if adds_process events then [] else codes "  dies"

-- who changed the cell last before, if that is told
unfoldable pub wrote_told : Side → ℕ → List ℕ
wrote_told side turn = codes "; written by " ++ side_name side ++ codes " in " ++ decimal turn

unfoldable pub loaded_told : Side → List ℕ
loaded_told side = codes "; loaded by " ++ side_name side

abbrev pub writer_told : Option Writer → List ℕ
writer_told None = []
writer_told (Some (Writer.Turn side turn)) = wrote_told side turn
writer_told (Some (Writer.Loaded side)) = loaded_told side
writer_told (Some Writer.Nobody) = codes "; never written"

-- ---- the lines of JSON

-- the type of a line, and the number of its turn
unfoldable pub line_start : List ℕ → ℕ → List ℕ
line_start kind number = codes "{\"type\":\"" ++ kind ++ codes "\",\"turn\":" ++ decimal number

-- further fields: a side, an address, an instruction, and the turn in which it was written
unfoldable pub side_field : List ℕ → Side → List ℕ
side_field key side = codes ",\"" ++ key ++ codes "\":\"" ++ side_name side ++ codes "\""

unfoldable pub address_field : ℕ → List ℕ
address_field at = codes ",\"address\":" ++ decimal at

unfoldable pub instruction_field : ℕ → Instr → List ℕ
instruction_field core i = codes ",\"instruction\":\"" ++ instruction_shown Place.Plain core i ++ codes "\""

unfoldable pub written_field : ℕ → List ℕ
written_field turn = codes ",\"written\":" ++ decimal turn

unfoldable pub turn_object : ℕ → ℕ → Instr → Side → ℕ → List ℕ
turn_object core number i side at =
    line_start (codes "turn") number ++ side_field (codes "side") side ++ address_field at ++ instruction_field core i ++ codes "}\n"

unfoldable pub cell_object : ℕ → ℕ → ℕ → Instr → List ℕ
cell_object core number at now = line_start (codes "cell") number ++ address_field at ++ instruction_field core now ++ codes "}\n"

unfoldable pub process_object : ℕ → ℕ → List ℕ
process_object number at = line_start (codes "process") number ++ address_field at ++ codes "}\n"

abbrev pub event_object : ℕ → ℕ → Instr → Event → List ℕ
event_object core number i (Event.Turn side at) = turn_object core number i side at
event_object core number i (Event.Cell at now) = cell_object core number at now
event_object core number i (Event.Process at) = process_object number at

-- the writer, and the turn in which it changed the cell; 0 if the cell holds what was loaded
unfoldable pub wrote_object : ℕ → Side → ℕ → List ℕ
wrote_object number side turn = line_start (codes "writer") number ++ side_field (codes "writer") side ++ written_field turn ++ codes "}\n"

unfoldable pub nobody_object : ℕ → List ℕ
nobody_object number = line_start (codes "writer") number ++ codes ",\"writer\":\"none\",\"written\":0}\n"

abbrev pub writer_object : ℕ → Option Writer → List ℕ
writer_object number None = []
writer_object number (Some (Writer.Turn side turn)) = wrote_object number side turn
writer_object number (Some (Writer.Loaded side)) = wrote_object number side 0
writer_object number (Some Writer.Nobody) = nobody_object number

-- ---- a turn, and turn after turn

abbrev pub event_text : Form → ℕ → ℕ → Instr → Event → List ℕ
event_text Form.Text core number i event = event_told core i event
event_text Form.Json core number i event = event_object core number i event

abbrev pub events_text : Form → ℕ → ℕ → Instr → List Event → List ℕ
events_text form core number i events = flat_map (event_text form core number i) events

-- the turn of this number, counted from 1, with the instruction that it executes and its events
unfoldable pub turn_line : ℕ → ℕ → Instr → List Event → Option Writer → List ℕ
turn_line core number i events writer =
    decimal number ++ events_text Form.Text core number i events ++ end_told events ++ writer_told writer ++ codes "\n"

unfoldable pub turn_objects : ℕ → ℕ → Instr → List Event → Option Writer → List ℕ
turn_objects core number i events writer = events_text Form.Json core number i events ++ writer_object number writer

abbrev pub turn_text : Form → ℕ → ℕ → Instr → List Event → Option Writer → List ℕ
turn_text Form.Text core number i events writer = turn_line core number i events writer
turn_text Form.Json core number i events writer = turn_objects core number i events writer

-- what a core holds at the address at which a turn begins
abbrev pub executed_at : List Instr → Option Event → Instr
executed_at core None = blank
executed_at core (Some (Event.Turn side at)) = cell core at
executed_at core (Some (Event.Cell at now)) = blank
executed_at core (Some (Event.Process at)) = blank

abbrev pub executed : List Instr → List Event → Instr
executed core events = executed_at core (slice_get events 0)

-- the writer is told at the turn in which a side lost
abbrev pub writer_at : Story → ℕ → Option Writer
writer_at (Story.Fell fall) number = if fall.turn == number then Some fall.writer else None
writer_at (Story.Tied first second) number = None

-- turn n of a round that begins so, counted from 0
abbrev pub turn_at : Form → ℕ → Round → List (List Event) → Story → ℕ → List ℕ
turn_at form core start turns story n =
    turn_text form core (n + 1) (executed (after_turns n start).core (slice_index_or turns n [])) (slice_index_or turns n []) (writer_at story (n + 1))

-- the turns from this one on, one after the other
abbrev pub turns_text : Form → ℕ → Round → List (List Event) → Story → ℕ → List ℕ
turns_text form core start turns story from = flat_map (turn_at form core start turns story) (range_with_len from (length turns - from))
