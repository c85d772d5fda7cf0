-- All so far have their addresses.
use Rattle.{std.proofs.Common.All, redcode_listing.specs.Listing.IsLabelOf}
use Rattle.redcode_listing.proofs.labels.add_labels.Given as goal

abbrev pub invariant-loop-token : goal.invariant-loop-token
invariant-loop-token g l = All (IsLabelOf l.expanded.labels) l.labels.items
