-- Of each pass: the arena is the round after the turns so far, and the last of them is that of the pass before.
use Rattle.{std.proofs.Common.{◌≡◌, MatchOption}, mars_core.specs.Round.{after_turns, IsRound}, koth_replay.specs.Ending.IsMade}
use Rattle.koth_replay.proofs.ending.last_turn.Given as goal

abbrev pub invariant-loop-turn : goal.invariant-loop-turn
invariant-loop-turn g l = record {
  now : l.arena ≡ after_turns l.turn l.fn.arena;
  last : MatchOption l.last (l.arena ≡ l.fn.arena) (IsMade l.fn.arena l.arena);
  used : l.arena.used ≡ l.turn;
  round : IsRound l.arena;
  side : l.side ≡ l.arena.to_move;
}
