-- An event for each process from the place on and before this one.
use Rattle.{std.proofs.Common.{◌≡◌, ◌++◌, take}, mars_core.specs.Round.queue_of, koth_replay.specs.Turn.process_events}
use Rattle.koth_replay.proofs.turns.push_processes.Given as goal

abbrev pub invariant-loop-i : goal.invariant-loop-i
invariant-loop-i g l = l.events.items ≡ l.fn.events.items ++ process_events l.place (take l.i (queue_of l.side l.arena))
