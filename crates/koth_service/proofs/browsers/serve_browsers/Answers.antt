-- One connection after the other.
use Rattle.{std.proofs.Common.{◌∙◌, subst, sym}, koth_service.specs.{Connections.stage_at, Standing.{GoesOn, shown_to}}}
use Rattle.koth_service.proofs.{Told.{grows_on, stays}, Visits.{may_still, shown_twice}}
use Rattle.koth_service.proofs.browsers.serve_browsers.Goals as goal

pub loop-place-init : goal.loop-place-init
loop-place-init g c =
    (λ start peers slots clock share on. c.admit-admitted.ensures.served c.args.store.now start peers slots clock on, c.admit-admitted.ensures.slots, stays _)

pub loop-place-preserved : goal.loop-place-preserved
loop-place-preserved g c = (
  λ start peers slots clock share on.
      let was = c.loop-place.round.has_answered in
      subst (λ peers. GoesOn g.S.Sockets.happened g.D.Device.facts (g.H.Host.shows c.args.host.now) start c.move_on-moved.new.sockets peers (stage_at c.move_on-moved.new.browsers.connections.items) c.args.store.now)
      (shown_twice was c.move_on-moved.result.has_answered peers)
      (c.move_on-moved.ensures.served start (shown_to was peers) (λ is. may_still c.args.pass.may_answer was peers share (sym c.after-next.ensures ∙ is)) (c.loop-place.invariant.0 start peers slots clock share on)),
  c.move_on-moved.ensures.slots ∙ c.loop-place.invariant.1,
  grows_on _ _ _ c.loop-place.invariant.2 c.move_on-moved.ensures.told,
)

pub returns-then-round-clause-served : goal.returns-then-round-clause-served
returns-then-round-clause-served g c = λ start peers slots clock share on. rw c.pass_turn.ensures (c.loop-place.invariant.0 start peers slots clock share on)

pub returns-then-round-clause-told : goal.returns-then-round-clause-told
returns-then-round-clause-told g c = grows_on _ _ _ c.admit-admitted.ensures.told c.loop-place.invariant.2

pub returns-else-round-clause-told : goal.returns-else-round-clause-told
returns-else-round-clause-told g c = grows_on _ _ _ c.admit-admitted.ensures.told c.loop-place.invariant.2
