-- The longest line so far, or a longer one in the rest, is the longest of all.
use Rattle.{std.proofs.Common.{◌≡◌, ◌≤◌, drop, max}, koth_hills.specs.Width.{longest_from, longest_line}}
use Rattle.koth_hills.proofs.width.longest_line.Given as goal

abbrev pub invariant-loop-byte : goal.invariant-loop-byte
invariant-loop-byte l = record {
  due : max (longest_from l.before (drop l.byte-index l.text)) l.longest ≡ longest_line l.text;
  within : l.before ≤ l.byte-index;
}
