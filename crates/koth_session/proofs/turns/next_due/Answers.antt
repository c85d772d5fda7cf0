-- From the turn on, and then round.
use Rattle.koth_session.proofs.FirstDue.{first_after, first_round}
use Rattle.koth_session.proofs.turns.next_due.Goals as goal

pub returns-in-Some : goal.returns-in-Some
returns-in-Some g c = first_after c.args.first c.args.busy c.args.slots.now c.args.start c.in-Some.number c.in-Some.ensures

pub returns-in-None : goal.returns-in-None
returns-in-None g c = first_round c.args.first c.args.busy c.args.slots.now c.args.start c.min.result c.first_due-in-None.result c.min.ensures c.in-None.ensures c.first_due-in-None.ensures
