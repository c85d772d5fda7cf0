-- What was written out has the labels that are due.
use Rattle.redcode_scene.proofs.Labelled.{has-label-by}
use Rattle.redcode_scene.proofs.probe.has_label.Goals as goal

pub returns-in-Ok : goal.returns-in-Ok
returns-in-Ok g c = has-label-by _ _ _ _ _ _ c.in-Ok.ensures.gives c.label.ensures c.is_some.ensures
