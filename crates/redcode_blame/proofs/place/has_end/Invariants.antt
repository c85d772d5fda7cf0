-- The tokens that are left decide.
use Rattle.{std.proofs.Common.{◌≡◌, length}, std.specs.List.list_any, redcode_text.specs.Tokens.scanned_pieces, redcode_blame.specs.Place.ends_at}
use Rattle.redcode_blame.proofs.place.has_end.Given as goal

abbrev pub invariant-loop-rest : goal.invariant-loop-rest
invariant-loop-rest l = list_any (ends_at l.end) (scanned_pieces l.rest) ≡ list_any (ends_at l.end) (scanned_pieces l.tokens)

abbrev pub decreases-loop-rest : goal.decreases-loop-rest
decreases-loop-rest l = length l.rest
