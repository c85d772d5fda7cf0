-- The sum so far and what is earned against those that are left are what is earned against all.
use Rattle.{std.proofs.Common.{◌≡◌, ◌+◌, ◌*◌, ◌≤◌, drop, map}, koth_hill.specs.Standings.{standing_parts, entries_in, kept_in, entry_at, points_among, left}}
use Rattle.koth_hill.proofs.points.points.Given as goal

abbrev pub invariant-loop-i : goal.invariant-loop-i
invariant-loop-i l = record {
  value : l.sum + points_among (kept_in (map standing_parts l.standings)) (left l.out (entries_in (map standing_parts (drop l.i l.standings)))) (entry_at (map standing_parts l.standings) l.place)
      ≡ points_among (kept_in (map standing_parts l.standings)) (left l.out (entries_in (map standing_parts l.standings))) (entry_at (map standing_parts l.standings) l.place);
  small : l.sum ≤ 3000 * l.i;
}
