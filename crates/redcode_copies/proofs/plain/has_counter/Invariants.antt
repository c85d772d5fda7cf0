-- A counter is among the tokens that are left if and only if one is among all.
use Rattle.{std.proofs.Common.{◌≡◌, drop}, redcode_text.specs.Tokens.pieces, redcode_copies.specs.Plain.has_number}
use Rattle.redcode_copies.proofs.plain.has_counter.Given as goal

abbrev pub invariant-loop-token : goal.invariant-loop-token
invariant-loop-token g l = has_number (g.C.Counters.counters l.counters) (pieces (drop l.token-index l.tokens)) ≡ has_number (g.C.Counters.counters l.counters) (pieces l.tokens)
