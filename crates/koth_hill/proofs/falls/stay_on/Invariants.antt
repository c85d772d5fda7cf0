-- Those so far have stayed, and those that are left are as they were.
use Rattle.{std.proofs.Common.{◌≡◌, ◌++◌, map, take, drop}, koth_hill.specs.Kept.stayed}
use Rattle.koth_hill.proofs.falls.stay_on.Given as goal

abbrev pub invariant-loop-member : goal.invariant-loop-member
invariant-loop-member g l = l.members ≡ map (stayed l.place) (take l.member-index l.fn.members) ++ drop l.member-index l.fn.members
