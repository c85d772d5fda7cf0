-- Those before this place are the same.
use Rattle.std.proofs.Common.{◌≡◌, take}
use Rattle.koth_hill.proofs.fights.first_difference.Given as goal

abbrev pub invariant-loop-i : goal.invariant-loop-i
invariant-loop-i l = take l.i l.some ≡ take l.i l.others
