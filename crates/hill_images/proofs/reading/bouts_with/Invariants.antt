-- The results so far are those with the first of them.
use Rattle.{std.proofs.Common.{◌≡◌, get_or, length, map, take}, hill_images.specs.Stands.{bout_of, no_wins}}
use Rattle.hill_images.proofs.reading.bouts_with.Given as goal

abbrev pub invariant-loop-i : goal.invariant-loop-i
invariant-loop-i l = record {
  value : take l.i l.bouts ≡ map (λ e. bout_of l.rounds (get_or l.results e.slot no_wins)) (take l.i l.older);
  len : length l.bouts ≡ 20;
}
