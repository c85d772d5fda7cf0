-- What is written and the places that are left are the whole.
use Rattle.{std.proofs.Common.{◌≡◌, ◌+◌, ◌-◌, ◌*◌, ◌++◌, length, drop}, hill_bytes.specs.Layout.entry_places}
use Rattle.hill_bytes.proofs.header.put_entries.Given as goal

abbrev pub invariant-loop-place : goal.invariant-loop-place
invariant-loop-place l = record {
  whole : l.sector ++ entry_places (20 - l.place) (drop l.place l.entries) ≡ l.initial.sector ++ entry_places 20 l.entries;
  len : length l.sector ≡ 50 + 17 * l.place;
}
