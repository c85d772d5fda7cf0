-- A part that is in the text is in what is left of it.
use Rattle.{std.proofs.Common.{◌≡◌, length}, koth_http.specs.Tags.has_part}
use Rattle.koth_http.proofs.tags.has_part.Given as goal

abbrev pub invariant-loop-rest : goal.invariant-loop-rest
invariant-loop-rest l = has_part l.part l.text ≡ has_part l.part l.rest

abbrev pub decreases-loop-rest : goal.decreases-loop-rest
decreases-loop-rest l = length l.rest
