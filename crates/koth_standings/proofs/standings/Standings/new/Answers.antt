-- No place has rounds.
use Rattle.{std.proofs.Common.refl, koth_standings.proofs.Added.none_added}
use Rattle.koth_standings.proofs.standings.Standings.new.Goals as goal

pub returns : goal.returns
returns g c match_of = record {
  counts = none_added match_of c.args.places _ (c.in_ok-from_elem.ensures.items_if_clones_equal (λ y is. is));
  matches = refl;
}
