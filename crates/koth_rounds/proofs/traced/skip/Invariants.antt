-- The turns so far are made.
use Rattle.{std.proofs.Common.◌≡◌, mars_core.specs.Round.after_turns}
use Rattle.koth_rounds.proofs.traced.skip.Given as goal

abbrev pub invariant-loop-turn : goal.invariant-loop-turn
invariant-loop-turn g l = l.arena ≡ after_turns l._turn l.fn.arena
