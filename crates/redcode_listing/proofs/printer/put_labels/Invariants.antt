-- The labels so far, and those that are left.
use Rattle.{std.proofs.Common.{◌≡◌, ◌++◌, drop}, redcode_listing.specs.Listing.label_texts}
use Rattle.redcode_listing.proofs.printer.put_labels.Given as goal

abbrev pub invariant-loop-label : goal.invariant-loop-label
invariant-loop-label g l = l.text.items ++ label_texts l.address (drop l.label-index l.labels) ≡ l.fn.text.items ++ label_texts l.address l.labels
