-- The bytes that are left decide.
use Rattle.{std.proofs.Common.{◌≡◌, length}, std.specs.List.list_all, war_types.specs.Title.is_blank}
use Rattle.redcode_blame.proofs.place.are_blank.Given as goal

abbrev pub invariant-loop-rest : goal.invariant-loop-rest
invariant-loop-rest l = list_all is_blank l.rest ≡ list_all is_blank l.text

abbrev pub decreases-loop-rest : goal.decreases-loop-rest
decreases-loop-rest l = length l.rest
