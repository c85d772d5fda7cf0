use Rattle.{std.proofs.Common.{◌≡◌, ◌≤◌, ◌++◌, length, drop}, circular_buffer.specs.Buffer.buffer}
use Rattle.mars_operations.proofs.queue.put_first.Given as goal

abbrev pub invariant-loop-at : goal.invariant-loop-at
invariant-loop-at g l = record {
  within : l.at ≤ length l.addresses;
  put : l.ring ≡ buffer (drop l.at l.addresses ++ l.fn.ring.items) l.fn.ring.capacity;
}

abbrev pub decreases-loop-at : goal.decreases-loop-at
decreases-loop-at g l = l.at
