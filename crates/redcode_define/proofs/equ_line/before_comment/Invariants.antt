-- The tokens so far, and those from here on.
use Rattle.{std.proofs.Common.{◌≡◌, ◌++◌, take, drop}, redcode_text.specs.Tokens.pieces, redcode_lines.specs.Line.{taken_while, dropped_while, is_no_comment}}
use Rattle.redcode_define.proofs.equ_line.before_comment.Given as goal

abbrev pub invariant-loop-i : goal.invariant-loop-i
invariant-loop-i l =
    (pieces (take l.i l.tokens) ++ taken_while is_no_comment (pieces (drop l.i l.tokens)) ≡ taken_while is_no_comment (pieces l.tokens))
    × (dropped_while is_no_comment (pieces (drop l.i l.tokens)) ≡ dropped_while is_no_comment (pieces l.tokens))
