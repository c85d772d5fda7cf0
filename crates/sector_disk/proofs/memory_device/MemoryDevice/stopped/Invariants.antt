-- The sectors made so far hold what their numbers name.
use Rattle.sector_disk.proofs.Sectors.{AreStopped}
use Rattle.sector_disk.proofs.memory_device.MemoryDevice.stopped.Given as goal

abbrev pub invariant-loop-n : goal.invariant-loop-n
invariant-loop-n g l = AreStopped l.choice l.self.sectors l.sectors.items l.n
