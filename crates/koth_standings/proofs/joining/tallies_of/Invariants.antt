-- The rounds of the first rows.
use Rattle.{std.proofs.Common.{◌≡◌, map, take}, koth_standings.specs.declared.part_text.Row.Row}
use Rattle.koth_standings.proofs.joining.tallies_of.Given as goal

abbrev pub invariant-loop-row : goal.invariant-loop-row
invariant-loop-row g l = l.counts.items ≡ map (λ (r : Row). r.tally) (take l.row-index l.rows)
