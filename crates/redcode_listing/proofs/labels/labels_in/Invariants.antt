-- All so far have their addresses.
use Rattle.{std.proofs.Common.All, redcode_listing.specs.Listing.IsLabelOf}
use Rattle.redcode_listing.proofs.labels.labels_in.Given as goal

abbrev pub invariant-loop-line : goal.invariant-loop-line
invariant-loop-line g l = All (IsLabelOf l.expanded.labels) l.labels.items
