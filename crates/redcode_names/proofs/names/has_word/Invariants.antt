-- A reserved word of what is left is one of the whole.
use Rattle.{std.proofs.Common.{◌≡◌, drop}, redcode_text.specs.Tokens.pieces, redcode_names.specs.Equ.has_word}
use Rattle.redcode_names.proofs.names.has_word.Given as goal

abbrev pub invariant-loop-token : goal.invariant-loop-token
invariant-loop-token l = has_word (pieces (drop l.token-index l.tokens)) ≡ has_word (pieces l.tokens)
