-- The sectors made so far are blank.
use Rattle.{std.proofs.Common.{◌≡◌, [], replicate}, sector_disk.specs.Memory.{sector_of, zeros}}
use Rattle.sector_disk.proofs.memory_device.MemoryDevice.new.Given as goal

abbrev pub invariant-loop-i : goal.invariant-loop-i
invariant-loop-i g l = l.blank.items ≡ replicate l._i (sector_of zeros [])
