-- The lines of the first results are put.
use Rattle.std.proofs.Common.{◌≡◌, ◌++◌, take}
use Rattle.std.specs.List.{flat_map, zip}
use Rattle.koth_json.specs.Hill.{bout_line}
use Rattle.koth_json.proofs.hill.put_bouts.Given as goal

abbrev pub invariant-loop-place : goal.invariant-loop-place
invariant-loop-place g l =
    l.lines.items ≡ l.fn.lines.items ++ flat_map (λ (m, b). bout_line l.entry m b) (zip (take l.place l.hill.members) (take l.place l.bouts))
