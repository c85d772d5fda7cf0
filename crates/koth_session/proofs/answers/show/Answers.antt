-- The table is put in, or the session ends.
use Rattle.{std.proofs.Common.◌∙◌, koth_session.proofs.Answering.table_said}
use Rattle.koth_session.proofs.answers.show.Goals as goal

pub returns-in-Ok : goal.returns-in-Ok
returns-in-Ok g c = λ steps.
    table_said g.D.Device.facts steps c.say.result c.as_slice.result.now c.args.outbox.now.unsent c.say.new.outbox.unsent c.args.store.now
    (c.as_slice.ensures.value ∙ c.in-Ok.ensures) c.say.ensures
