-- What is written and the places that are left are the whole.
use Rattle.{std.proofs.Common.{◌≡◌, ◌+◌, ◌-◌, ◌*◌, ◌++◌, length, drop}, hill_bytes.specs.Layout.code_places}
use Rattle.hill_bytes.proofs.slot.put_code.Given as goal

abbrev pub invariant-loop-place : goal.invariant-loop-place
invariant-loop-place l = record {
  whole : l.sector ++ code_places (l.places - l.place) (drop l.place l.code) ≡ l.initial.sector ++ code_places l.places l.code;
  len : length l.sector ≡ length l.initial.sector + 8 * l.place;
}
