-- A submission that was judged is answered, unless there is no place.
use Rattle.{std.proofs.Common.arith, koth_session.proofs.Answering.{no_place, reply_said}}
use Rattle.koth_session.proofs.answers.finish.Goals as goal

pub returns-in-Some : goal.returns-in-Some
returns-in-Some g c = λ source steps of_source.
    no_place g.D.Device.facts steps source c.in-Some.end c.args.outbox.now.unsent c.make_room.new.outbox.unsent c.args.store.now c.in-Some.ensures.lacks c.in-Some.ensures.same

pub returns : goal.returns
returns g c = λ source steps of_source.
    reply_said g.D.Device.facts steps source c.finish-reply.result c.put_reply.result c.args.outbox.now.unsent c.make_room.new.outbox.unsent c.put_reply.new.outbox.unsent
    c.args.store.now c.finish-reply.new.self (c.finish-reply.ensures.submits source of_source) c.finish-reply.ensures.kept (λ most. let few = c.requires.may.more in absurd (omega (arith, few, most)))
    c.make_room.ensures.same c.put_reply.ensures.says
