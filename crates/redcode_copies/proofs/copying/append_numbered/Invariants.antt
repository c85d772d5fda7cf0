-- The tokens so far.
use Rattle.{std.proofs.Common.{◌≡◌, ◌++◌, take}, redcode_text.specs.Tokens.pieces, redcode_copies.specs.Counter.numbered}
use Rattle.redcode_copies.proofs.copying.append_numbered.Given as goal

abbrev pub invariant-loop-joined : goal.invariant-loop-joined
invariant-loop-joined g l = pieces l.out.items ≡ pieces l.initial.out.items ++ numbered l.counter (take l.joined-index l.tokens)
