use Rattle.{std.proofs.{lemmas.Grind.common_steps, Common.{arith, sym, subst}}, redcode_names.specs.Name.CounterPlaces, redcode_expand.specs.Rest.ArePlaced}
use Rattle.redcode_expand.proofs.PlacedNames.{both-set, placed-next}
use Rattle.redcode_expand.proofs.open_blocks.place_next.Goals as goal

pub returns-clause-placed : goal.returns-clause-placed
returns-clause-placed g c =
    let blocks = c.args.blocks.now in
    subst (λ (ps : CounterPlaces). ArePlaced ps blocks) (sym c.in_ok-set_last.ensures.set) (both-set c.first_next.new.names blocks c.args.name.now c.first_next.ensures.placed)

pub returns-clause-last : goal.returns-clause-last
returns-clause-last g c = grind (arith, common_steps, placed-next)
