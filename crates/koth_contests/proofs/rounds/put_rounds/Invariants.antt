-- The lines of the first rounds were put behind the heading.
use Rattle.{std.proofs.Common.{◌≡◌, ◌++◌}, std.specs.List.flat_map}
use Rattle.koth_contests.specs.Rounds.{round_line, rounds_before, rounds_heading}
use Rattle.koth_contests.proofs.rounds.put_rounds.Given as goal

abbrev pub invariant-loop-round : goal.invariant-loop-round
invariant-loop-round g l = record {
  text : l.text.items ≡ l.fn.text.items ++ (rounds_heading l.view ++ flat_map (round_line l.view) (rounds_before l.settings l.older l.younger l.round));
  settings : l.arena.settings ≡ l.settings;
}
