-- What is written and the results that are left are the whole.
use Rattle.{std.proofs.Common.{◌≡◌, ◌+◌, ◌*◌, ◌++◌, length, drop}, hill_bytes.specs.Layout.result_places}
use Rattle.hill_bytes.proofs.slot.put_results.Given as goal

abbrev pub invariant-loop-wins : goal.invariant-loop-wins
invariant-loop-wins l = record {
  whole : l.sector ++ result_places (drop l.wins-index l.results) ≡ l.initial.sector ++ result_places l.results;
  len : length l.sector ≡ length l.initial.sector + 4 * l.wins-index;
}
