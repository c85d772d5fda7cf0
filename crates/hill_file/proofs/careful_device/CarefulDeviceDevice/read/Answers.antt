use Rattle.hill_file.proofs.Steps.{read_on}
use Rattle.hill_file.proofs.careful_device.CarefulDeviceDevice.read.Goals as goal

pub returns-clause-goes : goal.returns-clause-goes
returns-clause-goes g c = λ start log on.
    rw c.counted.ensures.same
    (read_on g.F.SectorFile.happened start log c.args.self.now c.read-answer.new.self c.counted.new.faults c.args.n c.read-answer.new.to c.read-answer.result c.read-answer.ensures on)
