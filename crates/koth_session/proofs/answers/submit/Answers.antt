-- A submission is answered by the line of its reply.
use Rattle.koth_session.proofs.Answering.{no_place, reply_said}
use Rattle.koth_session.proofs.answers.submit.Goals as goal

pub returns-in-Some-clause-answers : goal.returns-in-Some-clause-answers
returns-in-Some-clause-answers g c =
    no_place g.D.Device.facts c.args.steps c.args.source.now c.in-Some.end c.args.outbox.now.unsent c.make_room.new.outbox.unsent c.args.store.now c.in-Some.ensures.lacks c.in-Some.ensures.same

pub returns-in-Some-submit_within-clause-answers : goal.returns-in-Some-submit_within-clause-answers
returns-in-Some-submit_within-clause-answers g c =
    reply_said g.D.Device.facts c.args.steps c.args.source.now c.in-Some-submit_within.reply c.put_reply.result c.args.outbox.now.unsent c.make_room.new.outbox.unsent c.put_reply.new.outbox.unsent
    c.args.store.now c.submit_within.new.self c.in-Some-submit_within.ensures.submits c.in-Some-submit_within.ensures.kept c.in-Some-submit_within.ensures.worn c.make_room.ensures.same c.put_reply.ensures.says
