use Rattle.{std.proofs.{Common.{◌∙◌, Some, length, ap, arith, refl, slice_get, subst, sym}, lemmas.List.length-map}, koth_hill.specs.Kept.{Entrant, IsKept, Kept}, koth_hill.proofs.Shown.shown-at}
use Rattle.koth_hill.proofs.hill.Hill.bouts.Goals as goal

pub index-requires : goal.index-requires
index-requires g c = omega (arith, c.requires, ap (λ (k : Kept). length k.members) c.self.view_is, length-map c.self.inside.members.items (λ (e : Entrant). e.member))

pub returns-clause-hill : goal.returns-clause-hill
returns-clause-hill g c = subst IsKept c.self.view_is c.self.invariant.0

pub returns-clause-value : goal.returns-clause-value
returns-clause-value g c =
    let es = c.self.inside.members.items in
    ap (λ (k : Kept). slice_get k.results c.args.i) (sym c.self.view_is)
    ∙ shown-at (λ (e : Entrant). e.bouts) es es c.args.i c.index.result.now refl
    (omega (arith, c.requires, ap (λ (k : Kept). length k.members) c.self.view_is, length-map es (λ (e : Entrant). e.member))) c.index.ensures
    ∙ ap Some (sym (c.as_slice.ensures.value ∙ c.bouts.ensures))
