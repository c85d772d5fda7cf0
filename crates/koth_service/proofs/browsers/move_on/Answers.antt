use Rattle.{std.proofs.Common.{◌∙◌, subst, sym}, koth_service.specs.{Connections.{is_answered, stage_after, stage_at}, Standing.{GoesOn, shown_to}}, koth_service.proofs.{Told.grows_on, Visits.moved_on}}
use Rattle.koth_service.proofs.browsers.move_on.Goals as goal

pub returns-clause-served : goal.returns-clause-served
returns-clause-served g c = λ start slots share on.
    subst (λ b. GoesOn g.S.Sockets.happened g.D.Device.facts (g.H.Host.shows c.args.host.now) start c.settle.new.sockets (shown_to b slots) (stage_at c.settle.new.browsers.connections.items) c.args.store.now)
    (sym c.is_answered-has_answered.ensures)
    (moved_on g.S.Sockets.happened g.D.Device.facts (g.H.Host.shows c.args.host.now) start slots c.args.store.now c.args.pass.may_answer (is_answered c.after_stage-moved.result) c.args.sockets.now
    c.after_stage-moved.new.sockets c.settle.new.sockets c.args.number
    c.args.browsers.now.connections.items c.take.new.self.connections.items c.settle.new.browsers.connections.items c.in-Some.connection.stage
    (stage_after c.after_stage-moved.result) c.kept_after-kept.result (sym c.in-Some.ensures.taken) c.in-Some.ensures.comes c.after_stage-moved.ensures
    c.kept_after-kept.ensures c.settle.ensures.closes c.settle.ensures.comes share on)

pub returns-clause-slots : goal.returns-clause-slots
returns-clause-slots g c = c.settle.ensures.comes.size ∙ c.in-Some.ensures.comes.size

pub returns-clause-told : goal.returns-clause-told
returns-clause-told g c = grows_on _ _ _ c.tell_request.ensures c.tell_if.ensures
