-- Of each pass: the arena is the round before this turn, and the turns so far are put.
use Rattle.{std.proofs.Common.{◌≡◌, ◌≤◌, ◌++◌, ◌-◌, length}, std.specs.List.{flat_map, range_with_len}, mars_core.specs.Round.after_turns, koth_rounds.specs.Turns.turn_at}
use Rattle.koth_rounds.proofs.traced.put_turns.Given as goal

abbrev pub invariant-loop-place : goal.invariant-loop-place
invariant-loop-place g l = record {
  least : l.from ≤ l.place;
  most : l.place ≤ length l.replay.turns;
  now : l.arena ≡ after_turns l.place l.fn.arena;
  text : l.text.items ≡ l.fn.text.items ++ flat_map (turn_at l.form l.core l.fn.arena l.replay.turns l.story) (range_with_len l.from (l.place - l.from));
}
