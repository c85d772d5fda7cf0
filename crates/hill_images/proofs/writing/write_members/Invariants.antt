-- The slots so far were written.
use Rattle.hill_images.proofs.Stored.{IsStoredTo}
use Rattle.hill_images.proofs.writing.write_members.Given as goal

abbrev pub invariant-loop-i : goal.invariant-loop-i
invariant-loop-i g l = IsStoredTo g.D.Device.facts l.fn.device l.device l.fn.header l.fn.hill l.i
