-- The next pair of the field is of another part, or the next one of this part.
use Rattle.std.proofs.Common.{◌≡◌, ◌<◌, ◌∙◌, sym, ap, arith}
use Rattle.{koth_standings.specs.Parts.each_nth, koth_standings.proofs.Shared.passed}
use Rattle.koth_standings.proofs.parts.PairsOfPart.next.Goals as goal

pub loop-pair-preserved : goal.loop-pair-preserved
loop-pair-preserved c = record {
  left =
      let here = ap (each_nth c.loop-pair.self.count c.loop-pair.self.skipped) c.in-Some.ensures.left in
      sym (here ∙ passed c.loop-pair.self.count c.loop-pair.self.skipped _ _ (omega arith)) ∙ c.loop-pair.invariant.left;
  next = c.next.ensures.next;
  places = c.next.ensures.places ∙ c.loop-pair.invariant.places;
}
