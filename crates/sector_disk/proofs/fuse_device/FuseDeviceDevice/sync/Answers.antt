use Rattle.std.proofs.Common.{refl, sym}
use Rattle.sector_disk.proofs.fuse_device.FuseDeviceDevice.sync.Goals as goal

pub returns-in-Kept-clause-fused : goal.returns-in-Kept-clause-fused
returns-in-Kept-clause-fused g c =
    rw (sym c.in-Kept.ensures.fate) (rw (c.fail-in-Kept.ensures.inner)
    (refl, (c.sync-in-Kept.result, record { served = c.sync-in-Kept.ensures.served; changes_made = c.sync-in-Kept.ensures.changes })))
