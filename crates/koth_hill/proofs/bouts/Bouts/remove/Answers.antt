use Rattle.{std.proofs.Common.{◌∙◌, List, ap, arith}, std.specs.List.remove, koth_match.specs.declared.bout.Bout.Bout, koth_hill.proofs.Places.moved-up}
use Rattle.koth_hill.proofs.bouts.Bouts.remove.Goals as goal

pub returns-then-place-self : goal.returns-then-place-self
returns-then-place-self c = moved-up c.self.inside.places c.copy_within.new.self c.args.place c.self.inside.len c.if-place-self.true (omega (arith, c.self.invariant.0, c.self.invariant.1)) c.copy_within.ensures.after ∙ ap (λ (xs : List Bout). remove xs c.args.place) c.self.view_is
