-- The steps so far and those of the tokens that are left are no more than all.
use Rattle.{std.proofs.Common.{◌≤◌, ◌+◌, drop}, redcode_text.specs.Tokens.pieces, redcode_names.specs.Steps.token_steps}
use Rattle.redcode_names.proofs.rounds.append.Given as goal

abbrev pub invariant-loop-token : goal.invariant-loop-token
invariant-loop-token g l = l.steps + token_steps (pieces (drop l.token-index l.tokens)) ≤ l.initial.work + token_steps (pieces l.tokens)
