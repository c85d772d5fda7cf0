-- One turn more.
use Rattle.{std.proofs.Common.{◌≡◌, ◌∙◌, ap, arith}, mars_core.specs.Round.after_turns, koth_replay.proofs.Histories.{no-turns-yet, one_more}}
use Rattle.koth_rounds.proofs.traced.skip.Goals as goal

pub loop-turn-init : goal.loop-turn-init
loop-turn-init g c = no-turns-yet c.args.arena.now

pub loop-turn-preserved : goal.loop-turn-preserved
loop-turn-preserved g c = one_more c.args.arena.now c.loop-turn.arena c.turn-turned.new.self c.loop-turn._turn c.loop-turn.invariant c.turn-turned.ensures.after

pub returns : goal.returns
returns g c =
    let all : c.loop-turn._turn ≡ c.args.count = omega arith in
    c.loop-turn.invariant ∙ ap (λ n. after_turns n c.args.arena.now) all
