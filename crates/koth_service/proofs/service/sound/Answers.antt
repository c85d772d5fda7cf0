-- The desk is the same, or its hill was opened again.
use Rattle.std.proofs.Common.{refl}
use Rattle.koth_service.proofs.service.sound.Goals as goal

pub returns-in-Nobody : goal.returns-in-Nobody
returns-in-Nobody g c = rw c.in-Nobody.is refl

pub returns-in-Served : goal.returns-in-Served
returns-in-Served g c = rw c.in-Served.is refl

pub returns-in-Stepped : goal.returns-in-Stepped
returns-in-Stepped g c = rw c.in-Stepped.is refl

pub returns-in-PutOff : goal.returns-in-PutOff
returns-in-PutOff g c = rw c.in-PutOff.is refl

pub returns-in-StoreFailed : goal.returns-in-StoreFailed
returns-in-StoreFailed g c = rw c.in-StoreFailed.is c.reopened.ensures
