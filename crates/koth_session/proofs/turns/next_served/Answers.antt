-- One that comes first, or the one whose turn it is.
use Rattle.koth_session.proofs.FirstDue.{next_first, next_in_turn}
use Rattle.koth_session.proofs.turns.next_served.Goals as goal

pub returns-in-Some : goal.returns-in-Some
returns-in-Some g c = next_first c.args.has_share c.args.busy c.args.slots.now c.args.turn c.in-Some.number c.in-Some.ensures

pub returns-in-None : goal.returns-in-None
returns-in-None g c = next_in_turn c.args.has_share c.args.busy c.args.slots.now c.args.turn c.next_due-in-None.result c.in-None.ensures c.next_due-in-None.ensures
