-- The tokens so far.
use Rattle.{std.proofs.Common.{◌≡◌, ◌++◌, take}, redcode_text.specs.Tokens.pieces, redcode_copies.specs.Counter.kept}
use Rattle.redcode_copies.proofs.copying.append_kept.Given as goal

abbrev pub invariant-loop-joined : goal.invariant-loop-joined
invariant-loop-joined g l = pieces l.out.items ≡ pieces l.initial.out.items ++ kept (take l.joined-index l.tokens)
