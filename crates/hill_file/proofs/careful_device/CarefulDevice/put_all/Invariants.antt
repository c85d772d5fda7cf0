-- The sectors below `n` were written again.
use Rattle.std.proofs.Common.{◌≡◌, ◌++◌}
use Rattle.hill_file.specs.Careful.{EachWasWritten, Goes, IsAsRead}
use Rattle.hill_file.proofs.careful_device.CarefulDevice.put_all.Given as goal

abbrev pub invariant-loop-n : goal.invariant-loop-n
invariant-loop-n g l = (l.self.sectors ≡ l.initial.self.sectors) × (l.self.faults ≡ l.initial.self.faults) × (l.self.doubt ≡ l.initial.self.doubt)
    × (l.self.settled ≡ l.initial.self.settled) × (l.self.named ≡ l.initial.self.named) × Goes g.F.SectorFile.happened (λ start log done. IsAsRead done × EachWasWritten l.n (done ++ log)) l.initial.self l.self
