-- The scores so far and those of the ones that are left are those of all.
use Rattle.{std.proofs.Common.{◌≡◌, ◌≤◌, ◌++◌, length, map, drop}, koth_hill.specs.Standings.{standing_parts, entries_in, kept_in, score_among, left}}
use Rattle.koth_hill.proofs.points.scores.Given as goal

abbrev pub invariant-loop-i : goal.invariant-loop-i
invariant-loop-i l = record {
  value : l.scores ++ map (score_among (kept_in (map standing_parts l.standings)) (left l.out (entries_in (map standing_parts l.standings)))) (left l.out (entries_in (map standing_parts (drop l.i l.standings))))
      ≡ map (score_among (kept_in (map standing_parts l.standings)) (left l.out (entries_in (map standing_parts l.standings)))) (left l.out (entries_in (map standing_parts l.standings)));
  few : length l.scores ≤ l.i;
}
