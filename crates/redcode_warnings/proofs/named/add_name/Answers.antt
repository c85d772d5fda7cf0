use Rattle.redcode_warnings.proofs.Sets.{name-added}
use Rattle.redcode_warnings.proofs.named.add_name.Goals as goal

pub returns : goal.returns
returns g c = λ other. name-added c.args.name.now other _ _ (c.in_ok-insert.ensures.updates.0 (record c.args.name { now = other }))
