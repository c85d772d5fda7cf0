-- The tokens so far.
use Rattle.{std.proofs.Common.{◌≡◌, ◌++◌, map, take}, redcode_text.specs.Tokens.pieces, redcode_copies.specs.Plain.number_by}
use Rattle.redcode_copies.proofs.plain.append_numbered.Given as goal

abbrev pub invariant-loop-token : goal.invariant-loop-token
invariant-loop-token g l = pieces l.out.items ≡ pieces l.initial.out.items ++ map (number_by (g.C.Counters.counters l.counters)) (pieces (take l.token-index l.tokens))
