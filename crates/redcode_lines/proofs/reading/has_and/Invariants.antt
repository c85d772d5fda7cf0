-- An & is among the tokens that are left if one is among all.
use Rattle.{std.proofs.Common.{◌≡◌, drop}, redcode_text.specs.Tokens.pieces, redcode_lines.specs.Line.has_and}
use Rattle.redcode_lines.proofs.reading.has_and.Given as goal

abbrev pub invariant-loop-token : goal.invariant-loop-token
invariant-loop-token l = has_and (pieces (drop l.token-index l.tokens)) ≡ has_and (pieces l.tokens)
