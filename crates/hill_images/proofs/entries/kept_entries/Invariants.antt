use Rattle.{std.proofs.Common.{◌≡◌, ◌≤◌, length, take}, hill_images.specs.Places.kept_entries}
use Rattle.hill_images.proofs.entries.kept_entries.Given as goal

abbrev pub invariant-loop-e : goal.invariant-loop-e
invariant-loop-e l = (l.kept ≡ kept_entries l.falls (take l.e-index l.entries)) × (length l.kept ≤ l.e-index)
