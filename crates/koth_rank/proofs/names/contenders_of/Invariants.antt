-- The first warriors are there.
use Rattle.{std.proofs.Common.{◌≡◌, map, take}, koth_json.specs.Contest.contender_parts, koth_rank.specs.Join.named_parts}
use Rattle.koth_rank.proofs.names.contenders_of.Given as goal

abbrev pub invariant-loop-place : goal.invariant-loop-place
invariant-loop-place g l = map contender_parts l.contenders.items ≡ map named_parts (take l.place l.names)
