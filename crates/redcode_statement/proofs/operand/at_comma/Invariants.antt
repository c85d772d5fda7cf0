-- No comma so far.
use Rattle.{std.proofs.Common.{◌≡◌, ◌++◌, take, drop}, redcode_text.specs.Tokens.pieces, redcode_statement.specs.Sides.{before_comma, behind_comma}}
use Rattle.redcode_statement.proofs.operand.at_comma.Given as goal

abbrev pub invariant-loop-i : goal.invariant-loop-i
invariant-loop-i l =
    (pieces (take l.i l.tokens) ++ before_comma (pieces (drop l.i l.tokens)) ≡ before_comma (pieces l.tokens))
    × (behind_comma (pieces (drop l.i l.tokens)) ≡ behind_comma (pieces l.tokens))
