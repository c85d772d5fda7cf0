-- The lines of the first warriors' matches are put.
use Rattle.std.proofs.Common.{◌≡◌, ◌++◌, take}
use Rattle.std.specs.List.{flat_map, zip}
use Rattle.koth_json.specs.Hill.{bout_lines}
use Rattle.koth_json.proofs.hill.put_kept.Given as goal

abbrev pub invariant-loop-place : goal.invariant-loop-place
invariant-loop-place g l =
    l.lines.items ≡ l.fn.lines.items ++ flat_map (λ (m, bouts). bout_lines m.entry l.hill.members bouts) (zip (take l.place l.hill.members) (take l.place l.hill.results))
