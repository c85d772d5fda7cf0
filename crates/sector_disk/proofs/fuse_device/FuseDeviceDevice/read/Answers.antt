use Rattle.std.proofs.Common.{refl, sym}
use Rattle.sector_disk.proofs.fuse_device.FuseDeviceDevice.read.Goals as goal

pub returns-in-Kept-clause-fused : goal.returns-in-Kept-clause-fused
returns-in-Kept-clause-fused g c =
    rw (sym c.in-Kept.ensures.fate) (rw (c.fail-in-Kept.ensures.inner)
    (refl, (c.read-in-Kept.result, record { served = c.read-in-Kept.ensures.served; kept = c.read-in-Kept.ensures.kept; given = c.read-in-Kept.ensures.given })))
