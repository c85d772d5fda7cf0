-- Why there is no order comes after nothing.
use Rattle.koth_rank.proofs.PartsJoined.{fails_after}
use Rattle.koth_rank.proofs.part_order.order_of.Goals as goal

pub returns-in-Err : goal.returns-in-Err
returns-in-Err g c = fails_after _ _ _ _ c.loop-at.invariant.kept c.in-Err.ensures.put

pub returns-in-Some : goal.returns-in-Some
returns-in-Some g c = fails_after _ _ _ _ c.loop-at.invariant.kept c.refuse.ensures
