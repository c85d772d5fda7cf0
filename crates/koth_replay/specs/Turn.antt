-- The events of a turn.
use Rattle.std.specs.{Prelude.{ℕ, ◌-◌, if◌then◌else◌, List, [], ◌∷◌, ◌++◌, length, drop, map, slice_index}, List.{flat_map, range_with_len}}
use Rattle.{war_types.specs.{declared.instr.Instr.Instr, declared.instr.Modifier.Modifier}, mars_core.specs.{Cells.cell, Effect.are_equal, Round.{Round, queue_of, after_turn}}}
use Rattle.koth_replay.specs.declared.event.Event.{Event}

-- what is told of a cell that held one instruction and holds another now; nothing if they are the same, as SEQ under .I
-- compares them
abbrev pub cell_told : Instr → Instr → ℕ → List Event
cell_told old new at = if are_equal Modifier.I old new then [] else Event.Cell at new ∷ []

abbrev pub cell_events : List Instr → List Instr → ℕ → List Event
cell_events old new at = cell_told (cell old at) (cell new at) at

-- what is told of each of the first `size` cells, by their addresses
abbrev pub core_events : ℕ → List Instr → List Instr → List Event
core_events size old new = flat_map (cell_events old new) (range_with_len 0 size)

-- the processes from a place of a queue on
abbrev pub process_events : ℕ → List ℕ → List Event
process_events place queue = map (λ at. Event.Process at) (drop place queue)

-- the turn of this round: whose it is and what it executes, the cells that it changes, and the processes that it adds
-- after all that waited before it
unfoldable pub turn_events : Round → List Event
turn_events r =
    let queue = queue_of r.to_move r in
    let next = after_turn r in
    Event.Turn r.to_move (slice_index queue 0)
    ∷ (core_events r.settings.core r.core next.core ++ process_events (length queue - 1) (queue_of r.to_move next))
