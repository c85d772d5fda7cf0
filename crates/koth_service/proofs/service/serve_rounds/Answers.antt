-- Round after round.
use Rattle.{std.proofs.Common.{◌∙◌, refl, sym}, koth_service.specs.{Connections.stage_at, Services.start_at, Standing.peers_of}, koth_service.proofs.{Ends.{so_far_after, so_far_done, so_far_failed}, Openings.{begun, sound_after}, Told.{grows_on, stays}}}
use Rattle.koth_service.proofs.service.serve_rounds.Goals as goal

pub loop-round-init : goal.loop-round-init
loop-round-init g c = (
  λ none. begun g.S.Sockets.happened g.D.Device.facts (g.H.Host.shows c.args.host.now) (start_at c.args.desk) (stage_at c.args.browsers.now.connections.items) c.args.sockets.now (peers_of c.args.desk)
      c.requires.peers.nobody c.requires.peers.no_seats c.requires.browsers c.requires.peers.ended c.requires.peers.turn c.requires.peers.under_way c.requires.peers.clock c.requires.peers.read_at c.requires.peers.shares refl c.requires.peers.places
      c.requires.peers.sound none,
  c.requires.slots,
  stays _,
)

pub returns-then-are_enough-clause-served : goal.returns-then-are_enough-clause-served
returns-then-are_enough-clause-served g c = λ none.
    so_far_done g.S.Sockets.happened g.D.Device.facts (g.H.Host.shows c.args.host.now) _ _ c.args.connections _ _ _ _ (c.are_enough.ensures c.if-are_enough.true) (c.give_out.ensures.served _ (sym c.loop-round.invariant.1) (c.loop-round.invariant.0 none))

pub returns-then-are_enough-clause-told : goal.returns-then-are_enough-clause-told
returns-then-are_enough-clause-told g c = grows_on _ _ _ c.loop-round.invariant.2 c.give_out.ensures.told

pub returns-in-Err-clause-served : goal.returns-in-Err-clause-served
returns-in-Err-clause-served g c = λ none.
    so_far_after g.S.Sockets.happened g.D.Device.facts (g.H.Host.shows c.args.host.now) _ _ c.args.connections _ _ _ _ _ (c.take_in-step.ensures.served _ _ (c.give_out.ensures.served _ (sym c.loop-round.invariant.1) (c.loop-round.invariant.0 none)))

pub returns-in-Err-clause-told : goal.returns-in-Err-clause-told
returns-in-Err-clause-told g c = grows_on _ _ _ c.loop-round.invariant.2 (grows_on _ _ _ c.give_out.ensures.told c.take_in-step.ensures.told)

pub loop-round-preserved : goal.loop-round-preserved
loop-round-preserved g c = (
  λ none. sound_after g.S.Sockets.happened g.D.Device.facts (g.H.Host.shows c.args.host.now) _ _ _ _ _ _ c.in-Ok.ensures (c.take_in-step.ensures.served _ _ (c.give_out.ensures.served _ (sym c.loop-round.invariant.1) (c.loop-round.invariant.0 none))),
  c.give_out.ensures.slots ∙ c.loop-round.invariant.1,
  grows_on _ _ _ c.loop-round.invariant.2 (grows_on _ _ _ c.give_out.ensures.told c.take_in-step.ensures.told),
)

pub returns-clause-served : goal.returns-clause-served
returns-clause-served g c = λ none. so_far_failed g.S.Sockets.happened g.D.Device.facts (g.H.Host.shows c.args.host.now) _ _ c.args.connections _ _ _ _ (c.loop-round.invariant.0 none)
