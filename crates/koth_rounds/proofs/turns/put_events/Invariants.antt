-- The events so far are put.
use Rattle.{std.proofs.Common.{◌≡◌, ◌++◌, take}, koth_rounds.specs.Turns.events_text}
use Rattle.koth_rounds.proofs.turns.put_events.Given as goal

abbrev pub invariant-loop-place : goal.invariant-loop-place
invariant-loop-place g l = l.text.items ≡ l.fn.text.items ++ events_text l.form l.core l.number l.instr (take l.place l.events)
