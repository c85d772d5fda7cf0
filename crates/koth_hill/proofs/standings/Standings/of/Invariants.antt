-- The standings so far are those of the members before.
use Rattle.{std.proofs.Common.{◌≡◌, map, length, take}, koth_hill.specs.Standings.{standing_of, standing_parts}}
use Rattle.koth_hill.proofs.standings.Standings.of.Given as goal

abbrev pub invariant-loop-member : goal.invariant-loop-member
invariant-loop-member g l = record {
  parts : map standing_parts l.standings ≡ map standing_of (take l.member-index l.members);
  each : length l.standings ≡ l.member-index;
}
