-- The sectors up to here have made their last content stable, and the others are as they were.
use Rattle.{std.proofs.Common.{◌≡◌, ◌++◌, map, take, drop}, sector_disk.proofs.Sectors.settled_sector}
use Rattle.sector_disk.proofs.memory_device.MemoryDeviceDevice.sync.Given as goal

abbrev pub invariant-loop-sector : goal.invariant-loop-sector
invariant-loop-sector g l =
    l.sector-items ≡ map settled_sector (take l.sector-index l.initial.sector-items) ++ drop l.sector-index l.initial.sector-items
