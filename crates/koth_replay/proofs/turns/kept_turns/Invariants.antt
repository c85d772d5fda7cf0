-- Of each pass: the turns so far are those from the start on, and the cells and the side are those of the arena.
use Rattle.{std.proofs.Common.{◌≡◌, ◌+◌, length}, mars_core.specs.Round.{after_turns, IsRound}, koth_replay.specs.Code.{turns_of, AreTurns}}
use Rattle.koth_replay.proofs.turns.kept_turns.Given as goal

abbrev pub invariant-loop-turn : goal.invariant-loop-turn
invariant-loop-turn g l = record {
  turns : AreTurns l.fn.arena (turns_of l.turns.items);
  many : length l.turns.items ≡ l._turn;
  now : l.arena ≡ after_turns l._turn l.fn.arena;
  used : l.arena.used ≡ l.fn.arena.used + l._turn;
  round : IsRound l.arena;
  settings : l.arena.settings ≡ l.fn.arena.settings;
  side : l.side ≡ l.arena.to_move;
}
