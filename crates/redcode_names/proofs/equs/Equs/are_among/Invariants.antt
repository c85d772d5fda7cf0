-- The name of an EQU among those left is one of the whole.
use Rattle.{std.proofs.Common.{◌≡◌, drop}, redcode_text.specs.Tokens.pieces, redcode_names.specs.Equ.has_equ}
use Rattle.redcode_names.proofs.equs.Equs.are_among.Given as goal

abbrev pub invariant-loop-token : goal.invariant-loop-token
invariant-loop-token g l = has_equ l.self (pieces (drop l.token-index l.tokens)) ≡ has_equ l.self (pieces l.tokens)
