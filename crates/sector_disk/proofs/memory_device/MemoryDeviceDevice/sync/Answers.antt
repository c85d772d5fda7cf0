use Rattle.{std.proofs.Common.sym, sector_disk.proofs.Sectors.{settled_more, settled_all}}
use Rattle.sector_disk.proofs.memory_device.MemoryDeviceDevice.sync.Goals as goal

pub loop-sector-preserved : goal.loop-sector-preserved
loop-sector-preserved g c =
    settled_more c.deref_mut-sector-items.result.now _ _ _ _ c.loop-sector-test.true c.loop-sector.invariant c.sector-item.is c.sync.ensures

pub returns-clause-changes : goal.returns-clause-changes
returns-clause-changes g c = λ _.
    rw (sym c.self.view_is) (rw (sym c.deref_mut-sector-items.ensures.value)
    (settled_all c.deref_mut-sector-items.result.now _ _ _ _ c.loop-sector-test.false c.deref_mut-sector-items.ensures.len c.loop-sector.invariant))
