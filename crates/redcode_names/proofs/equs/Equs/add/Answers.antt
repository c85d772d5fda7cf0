use Rattle.std.proofs.{lemmas.Grind.common_steps, Common.{arith}}
use Rattle.{redcode_text.specs.Tokens.{pieces}, redcode_names.{proofs.{Lookups.{equs_of, names}, Steps.kept-added}}}
use Rattle.redcode_names.proofs.equs.Equs.add.Goals as goal

pub invariant_of-self-2 : goal.invariant_of-self-2
invariant_of-self-2 g c =
    kept-added (equs_of c.self.inside.bodies.entries) (equs_of c.insert.new.self.entries) c.args.name.now (pieces c.args.body.now) c.self.invariant (grind (arith, common_steps, names))
