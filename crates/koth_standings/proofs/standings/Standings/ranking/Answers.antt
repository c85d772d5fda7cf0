-- The places of the sorted keys are a ranking.
use Rattle.{std.{proofs.Common.subst, specs.Prelude.IsPermutation}, koth_standings.proofs.Sorted.ranked}
use Rattle.koth_standings.proofs.standings.Standings.ranking.Goals as goal

pub returns : goal.returns
returns g c =
    ranked c.args.self.now.counts c.sort.new.self.items c.as_slice.result.now c.places_of.result
    (subst (λ l. IsPermutation l c.sort.new.self.items) c.in_ok-keys.ensures c.in_ok-sort.ensures.permutation)
    c.in_ok-sort.ensures.sorted c.as_slice.ensures.value c.places_of.ensures
