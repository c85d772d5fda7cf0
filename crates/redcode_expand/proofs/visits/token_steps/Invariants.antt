-- The steps so far and those of the tokens that are left are those of all, unless they are too many for a number.
use Rattle.{std.proofs.Common.{◌≤◌, ◌<◌, ◌+◌, ◌^◌, drop}, redcode_text.specs.Tokens.pieces, redcode_expand.specs.Steps.token_steps}
use Rattle.redcode_expand.proofs.visits.token_steps.Given as goal

abbrev pub invariant-loop-token : goal.invariant-loop-token
invariant-loop-token l =
    (l.steps + token_steps (pieces (drop l.token-index l.tokens)) ≤ token_steps (pieces l.tokens))
    × (token_steps (pieces l.tokens) < 2 ^ 64 → token_steps (pieces l.tokens) ≤ l.steps + token_steps (pieces (drop l.token-index l.tokens)))
