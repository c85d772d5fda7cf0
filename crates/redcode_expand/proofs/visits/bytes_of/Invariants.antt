-- The bytes so far and those of the tokens that are left are no more than all.
use Rattle.{std.proofs.Common.{◌≤◌, ◌+◌, drop}, redcode_text.specs.Tokens.pieces, redcode_expand.specs.Steps.bytes_of}
use Rattle.redcode_expand.proofs.visits.bytes_of.Given as goal

abbrev pub invariant-loop-token : goal.invariant-loop-token
invariant-loop-token l = l.bytes + bytes_of (pieces (drop l.token-index l.tokens)) ≤ bytes_of (pieces l.tokens)
