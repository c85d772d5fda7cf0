use Rattle.{std.proofs.Common.arith, hill_images.proofs.FreeSlots.{slot_is_free, past_taken}}
use Rattle.hill_images.proofs.entries.free_slot.Goals as goal

pub returns-then-not-has_slot-clause-free : goal.returns-then-not-has_slot-clause-free
returns-then-not-has_slot-clause-free c = slot_is_free c.loop-slot.slot c.args.entries.now (grind (arith, c.if-not-has_slot.true, c.has_slot.ensures))

pub returns-clause-free : goal.returns-clause-free
returns-clause-free c = past_taken c.args.entries.now (λ k. λ below. c.loop-slot.invariant k (omega arith))
