-- The tokens that are left decide.
use Rattle.{std.proofs.Common.{◌≡◌, length}, redcode_text.specs.Tokens.scanned_pieces, redcode_blame.specs.Place.are_from}
use Rattle.redcode_blame.proofs.place.are_from.Given as goal

abbrev pub invariant-loop-rest : goal.invariant-loop-rest
invariant-loop-rest l = are_from l.from l.end (scanned_pieces l.rest) ≡ are_from l.from l.end (scanned_pieces l.tokens)

abbrev pub decreases-loop-rest : goal.decreases-loop-rest
decreases-loop-rest l = length l.rest
