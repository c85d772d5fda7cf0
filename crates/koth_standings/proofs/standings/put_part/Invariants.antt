-- The places before this one have the rounds of both, and the others those that they had.
use Rattle.{std.proofs.Common.{◌≡◌, ℕ, ◌<◌, ◌≤◌, get_or, length}, koth_standings.specs.Standings.{at_place, both, no_rounds}}
use Rattle.koth_standings.proofs.standings.put_part.Given as goal

abbrev pub invariant-loop-place : goal.invariant-loop-place
invariant-loop-place g l = record {
  many : length l.counts.items ≡ length l.fn.counts.items;
  added : (k : ℕ) → k < l.place → get_or l.counts.items k no_rounds ≡ both (at_place l.fn.counts.items k) (at_place l.part k);
  left : (k : ℕ) → l.place ≤ k → get_or l.counts.items k no_rounds ≡ at_place l.fn.counts.items k;
}
