-- The turns so far are put.
use Rattle.{std.proofs.Common.{◌≡◌, ◌++◌, take}, koth_watch.specs.Data.turns_text}
use Rattle.koth_watch.proofs.data.put_turns.Given as goal

abbrev pub invariant-loop-place : goal.invariant-loop-place
invariant-loop-place g l = l.page.items ≡ l.fn.page.items ++ turns_text l.core (take l.place l.replay.turns)
