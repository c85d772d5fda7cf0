-- The matches of the pairs before those that are left were fought.
use Rattle.{std.proofs.Common.{◌≡◌, length}, koth_field.specs.Field.entrants_of, koth_contests.specs.Met.Notes, koth_standings.specs.Parts.part_left, koth_rank.proofs.Fought.SoFar}
use Rattle.koth_rank.proofs.fighting.fight_pairs.Given as goal

abbrev pub invariant-loop-pair : goal.invariant-loop-pair
invariant-loop-pair g l = record {
  fought : SoFar l.settings l.plan (entrants_of l.members) (length l.members) l.left l.fought.standings l.fought.kept.items (g.O.Write.contents l.fn.output) (g.O.Write.contents l.output);
  notes : Notes l.plan.terms.view (g.E.Write.contents l.fn.errors) (g.E.Write.contents l.errors);
  settings : l.arena.settings ≡ l.settings;
}

abbrev pub decreases-loop-pair : goal.decreases-loop-pair
decreases-loop-pair g l = length (part_left l.left)
