-- The result at one of the places that are left is the one of all.
use Rattle.{std.proofs.Common.{◌≡◌, drop}, koth_hill.specs.Kept.entries_of, koth_views.specs.Fallen.bout_of}
use Rattle.koth_views.proofs.fallen.bout_with.Given as goal

abbrev pub invariant-loop-place : goal.invariant-loop-place
invariant-loop-place g l = bout_of (drop l.place (entries_of l.hill.members)) (drop l.place l.bouts) l.entry ≡ bout_of (entries_of l.hill.members) l.bouts l.entry
