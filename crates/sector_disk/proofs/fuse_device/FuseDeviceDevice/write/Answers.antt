use Rattle.std.proofs.Common.{refl, sym}
use Rattle.sector_disk.proofs.fuse_device.FuseDeviceDevice.write.Goals as goal

pub returns-in-Kept-clause-fused : goal.returns-in-Kept-clause-fused
returns-in-Kept-clause-fused g c =
    rw (sym c.in-Kept.ensures.fate) (rw (c.fail-in-Kept.ensures.inner)
    (refl, (c.write-in-Kept.result, record { served = c.write-in-Kept.ensures.served; changes_made = c.write-in-Kept.ensures.changes })))
