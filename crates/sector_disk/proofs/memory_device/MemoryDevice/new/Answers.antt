use Rattle.sector_disk.proofs.Sectors.{blank_more}
use Rattle.sector_disk.proofs.memory_device.MemoryDevice.new.Goals as goal

pub loop-i-preserved : goal.loop-i-preserved
loop-i-preserved g c = blank_more c.loop-i._i _ _ _ _ c.loop-i.invariant c.new.ensures c.in_ok-push.ensures.items
