-- What is found from here on is what is found of all.
use Rattle.{std.proofs.Common.{◌≡◌, false, drop}, redcode_text.specs.Tokens.pieces, redcode_define.specs.EquLine.names_last}
use Rattle.redcode_define.proofs.equ_line.names_last.Given as goal

abbrev pub invariant-loop-token : goal.invariant-loop-token
invariant-loop-token l = names_last l.name l.joined l.found (pieces (drop l.token-index l.tokens)) ≡ names_last l.name false false (pieces l.tokens)
