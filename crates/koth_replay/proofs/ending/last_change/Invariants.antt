-- Of each pass: the arena is the round before this turn, with the last change so far.
use Rattle.{std.proofs.Common.{◌≡◌, ◌≤◌}, koth_replay.specs.{Ending.IsChange, Story.round_before}}
use Rattle.koth_replay.proofs.ending.last_change.Given as goal

abbrev pub invariant-loop-turn : goal.invariant-loop-turn
invariant-loop-turn g l = record {
  least : 1 ≤ l.turn;
  now : l.arena ≡ round_before l.turn l.fn.arena;
  change : IsChange l.fn.arena l.at l.turn l.change;
  side : l.side ≡ l.arena.to_move;
}
