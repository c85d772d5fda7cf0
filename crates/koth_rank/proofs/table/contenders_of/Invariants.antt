-- The first members are there.
use Rattle.{std.proofs.Common.{◌≡◌, map, take}, koth_json.specs.Contest.contender_parts, koth_field.specs.Field.entrants_of, koth_rank.specs.Table.contenders_of}
use Rattle.koth_rank.proofs.table.contenders_of.Given as goal

abbrev pub invariant-loop-place : goal.invariant-loop-place
invariant-loop-place g l = map contender_parts l.contenders.items ≡ contenders_of (entrants_of (take l.place l.members))
