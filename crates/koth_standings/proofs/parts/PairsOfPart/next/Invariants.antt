-- No pair of the part is among those that were passed.
use Rattle.{std.proofs.Common.{◌≡◌, length}, koth_standings.specs.{Pairs.{IsNext, pairs_left}, Parts.part_left}}
use Rattle.koth_standings.proofs.parts.PairsOfPart.next.Given as goal

abbrev pub invariant-loop-pair : goal.invariant-loop-pair
invariant-loop-pair l = record {
  left : part_left l.self ≡ part_left l.fn.self;
  next : IsNext l.self.left;
  places : l.self.left.places ≡ l.fn.self.left.places;
}

abbrev pub decreases-loop-pair : goal.decreases-loop-pair
decreases-loop-pair l = length (pairs_left l.self.left)
