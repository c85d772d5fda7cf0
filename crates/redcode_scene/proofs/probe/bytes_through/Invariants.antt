-- The bytes that were passed, and those that are left up to the line feed.
use Rattle.{std.proofs.Common.{◌≡◌, ◌+◌, ◌≤◌, length}, redcode_scene.specs.Definer.bytes_through}
use Rattle.redcode_scene.proofs.probe.bytes_through.Given as goal

abbrev pub invariant-loop-rest : goal.invariant-loop-rest
invariant-loop-rest l =
    (bytes_through l.left l.rest + length l.text ≡ bytes_through l.feeds l.text + length l.rest) × (length l.rest ≤ length l.text)

abbrev pub decreases-loop-rest : goal.decreases-loop-rest
decreases-loop-rest l = length l.rest
