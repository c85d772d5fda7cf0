-- The one at this place is the first of those from there on.
use Rattle.std.proofs.{Common.sym, lemmas.List.{at_drop_all, at_drop_more}}
use Rattle.{koth_match.specs.Match.no_rounds, koth_views.specs.Fallen.first_bout}
use Rattle.koth_views.proofs.fallen.bout_at.Goals as goal

pub returns-then-place-bouts : goal.returns-then-place-bouts
returns-then-place-bouts c = sym (at_drop_more first_bout c.args.bouts.now c.args.place no_rounds c.if-place-bouts.true)

pub returns-else-place-bouts : goal.returns-else-place-bouts
returns-else-place-bouts c = sym (at_drop_all first_bout c.args.bouts.now c.args.place c.if-place-bouts.false)
