-- What came so far fills the buffer up to here.
use Rattle.{std.proofs.Common.{length, ◌-◌, ◌≤◌, take}, std.specs.Io.KnownBytes.Consumes}
use Rattle.koth_client.proofs.coming.fill_until.Given as goal

abbrev pub invariant-loop-filled : goal.invariant-loop-filled
invariant-loop-filled g l = (l.filled ≤ length l.buffer)
    × Consumes (g.R.Read.remaining l.initial.input.stream) (g.R.Read.remaining l.input.stream) (take l.filled l.buffer)

abbrev pub decreases-loop-filled : goal.decreases-loop-filled
decreases-loop-filled g l = length l.buffer - l.filled
