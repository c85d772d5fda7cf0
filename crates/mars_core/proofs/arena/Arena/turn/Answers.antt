use Rattle.{std.proofs.Common.◌∙◌, mars_core.proofs.Turns.{turned-over, after_turn-over, after_turns-one}}
use Rattle.mars_core.proofs.arena.Arena.turn.Goals as goal

pub returns-then-is_over-clause-turned : goal.returns-then-is_over-clause-turned
returns-then-is_over-clause-turned g c = turned-over c.args.self.now c.is_over.result c.is_over.ensures.value c.if-is_over.true

pub returns-then-is_over-clause-after : goal.returns-then-is_over-clause-after
returns-then-is_over-clause-after g c = after_turn-over c.args.self.now c.is_over.result c.is_over.ensures.value c.if-is_over.true

pub returns-clause-after : goal.returns-clause-after
returns-clause-after g c = c.turns.ensures.after ∙ after_turns-one c.args.self.now
