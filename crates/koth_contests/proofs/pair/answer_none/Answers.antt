-- The source is refused.
use Rattle.koth_contests.proofs.Answered.{refused_answers}
use Rattle.koth_contests.proofs.pair.answer_none.Goals as goal

pub returns-in-Refused : goal.returns-in-Refused
returns-in-Refused g c = refused_answers _ c.args.settings.now c.args.view c.in-Refused.text.items c.in-Refused.fault c.refusal.result (rw c.in-Refused.is at c.requires) c.refusal.ensures
