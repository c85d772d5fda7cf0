-- No word so far.
use Rattle.{std.proofs.Common.{◌≡◌, drop}, redcode_text.specs.Tokens.scanned_pieces, redcode_define.specs.EquLine.word_end}
use Rattle.redcode_define.proofs.equ_line.word_end.Given as goal

abbrev pub invariant-loop-token : goal.invariant-loop-token
invariant-loop-token l = word_end (scanned_pieces (drop l.token-index l.tokens)) ≡ word_end (scanned_pieces l.tokens)
