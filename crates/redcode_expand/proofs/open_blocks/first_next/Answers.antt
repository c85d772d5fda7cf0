use Rattle.{std.proofs.{lemmas.Grind.common_steps, Common.{◌≡◌, None, arith, sym, subst}}, redcode_names.specs.Name.CounterPlaces, redcode_expand.specs.Rest.{ArePlaced, place_in}}
use Rattle.redcode_expand.proofs.PlacedNames.{first-set, placed-next}
use Rattle.redcode_expand.proofs.open_blocks.first_next.Goals as goal

pub returns-in_ok-set_first-clause-placed : goal.returns-in_ok-set_first-clause-placed
returns-in_ok-set_first-clause-placed g c =
    let blocks = c.args.blocks.now in
    let name = c.args.name.now in
    let none : place_in blocks name ≡ None = grind (arith, common_steps) in
    subst (λ (ps : CounterPlaces). ArePlaced ps blocks) (sym c.in_ok-set_first.ensures.set) (first-set c.args.names.now blocks name _ c.requires none)

pub returns-in_ok-set_first-clause-first : goal.returns-in_ok-set_first-clause-first
returns-in_ok-set_first-clause-first g c = grind (arith, common_steps, placed-next)
