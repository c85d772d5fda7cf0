-- One thing after the other, and then further commands and steps of a submission, after which the device is sound.
use Rattle.koth_service.{specs.Standing.peers_of, proofs.{Openings.without_fault, Told.grows_on}}
use Rattle.koth_service.proofs.service.take_in.Goals as goal

pub loop-turn-init : goal.loop-turn-init
loop-turn-init g c = (
  λ start browsers on. c.take_arrivals.ensures.served start browsers (c.read_all.ensures.served start browsers (c.wait.ensures c.args.host.now start browsers on)),
  grows_on _ _ _ c.read_all.ensures.told c.take_arrivals.ensures.told,
)

pub returns-then-ends_round-clause-served : goal.returns-then-ends_round-clause-served
returns-then-ends_round-clause-served g c = λ start browsers on. c.serve_one-step.ensures.served start browsers (c.loop-turn.invariant.0 start browsers on)

pub returns-then-ends_round-clause-told : goal.returns-then-ends_round-clause-told
returns-then-ends_round-clause-told g c = grows_on _ _ _ c.loop-turn.invariant.1 c.serve_one-step.ensures.told

pub returns-then-desk-clause-served : goal.returns-then-desk-clause-served
returns-then-desk-clause-served g c = λ start browsers on. c.serve_one-step.ensures.served start browsers (c.loop-turn.invariant.0 start browsers on)

pub returns-then-desk-clause-told : goal.returns-then-desk-clause-told
returns-then-desk-clause-told g c = grows_on _ _ _ c.loop-turn.invariant.1 c.serve_one-step.ensures.told

pub loop-turn-preserved : goal.loop-turn-preserved
loop-turn-preserved g c = (
  λ start browsers on.
      without_fault g.S.Sockets.happened g.D.Device.facts (g.H.Host.shows c.args.host.now) start browsers c.serve_one-step.result (peers_of c.serve_one-step.new.desk) c.serve_one-step.new.desk.judge.store
      c.serve_one-step.new.sockets (c.ends_round.ensures c.if-ends_round.false) (c.serve_one-step.ensures.served start browsers (c.loop-turn.invariant.0 start browsers on)),
  grows_on _ _ _ c.loop-turn.invariant.1 c.serve_one-step.ensures.told,
)
