-- What is found of all names is what is suggested of them.
use Rattle.redcode_scene.proofs.Suggested.{suggests-by}
use Rattle.redcode_scene.proofs.nearest.nearest_among.Goals as goal

pub returns : goal.returns
returns g c = suggests-by _ _ _ _ c.in_ok-best.ensures c.found_in.ensures
