use Rattle.{hill_bytes.specs.Layout.layout_of, hill_images.proofs.WarriorsRead.IsReadTo}
use Rattle.hill_images.proofs.reading.read_hill.Given as goal

abbrev pub invariant-loop-i : goal.invariant-loop-i
invariant-loop-i g l = IsReadTo (layout_of l.fn.format) g.D.Device.facts l.fn.device l.device l.fn.header l.i l.hill
