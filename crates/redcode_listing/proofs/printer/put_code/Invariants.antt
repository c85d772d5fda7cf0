-- The lines so far, and those that are left.
use Rattle.{std.proofs.Common.{◌≡◌, ◌++◌, drop}, redcode_listing.specs.Listing.{listed, note_at}}
use Rattle.redcode_listing.proofs.printer.put_code.Given as goal

abbrev pub invariant-loop-i : goal.invariant-loop-i
invariant-loop-i g l =
    l.text.items ++ listed (note_at l.lines l.labels) l.core l.i (drop l.i l.code) ≡ l.fn.text.items ++ listed (note_at l.lines l.labels) l.core 0 l.code
