-- No comment so far.
use Rattle.{std.proofs.Common.{◌≡◌, ◌++◌, take, drop}, redcode_text.specs.Tokens.pieces, redcode_lines.specs.Line.without_comment}
use Rattle.redcode_lines.proofs.source_line.before_comment.Given as goal

abbrev pub invariant-loop-i : goal.invariant-loop-i
invariant-loop-i l = pieces (take l.i l.tokens) ++ without_comment (pieces (drop l.i l.tokens)) ≡ without_comment (pieces l.tokens)
