-- How many were met, and how many are left.
use Rattle.{std.proofs.Common.{◌≡◌, ◌≤◌, ◌+◌, drop}, redcode_listing.specs.Lines.times}
use Rattle.redcode_listing.proofs.lines.times.Given as goal

abbrev pub invariant-loop-line : goal.invariant-loop-line
invariant-loop-line l = record { met : l.count + times l.number (drop l.line-index l.lines) ≡ times l.number l.lines; few : l.count ≤ l.line-index }
