-- Nothing is begun: there is no place, or the source is answered.
use Rattle.{std.proofs.Common.refl, sector_disk.proofs.Kept.kept_same, koth_session.proofs.Answering.{no_place, reply_said}}
use Rattle.koth_session.proofs.answers.begin.Goals as goal

pub returns-in-Some-clause-answers : goal.returns-in-Some-clause-answers
returns-in-Some-clause-answers g c =
    no_place g.D.Device.facts c.args.steps c.args.source.now c.in-Some.end c.args.outbox.now.unsent c.make_room.new.outbox.unsent c.args.store.now c.in-Some.ensures.lacks c.in-Some.ensures.same

pub returns-in-Some-Err-clause-answers : goal.returns-in-Some-Err-clause-answers
returns-in-Some-Err-clause-answers g c =
    reply_said g.D.Device.facts c.args.steps c.args.source.now c.in-Some-Err.reply c.put_reply.result c.args.outbox.now.unsent c.make_room.new.outbox.unsent c.put_reply.new.outbox.unsent
    c.args.store.now c.args.store.now (rw c.in-Some-Err.field-0-is at c.in-Some-Err.ensures.begun) (kept_same g.D.Device.facts c.args.store.now.device) (λ most. refl) c.make_room.ensures.same c.put_reply.ensures.says
