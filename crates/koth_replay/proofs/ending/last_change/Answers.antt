-- Each turn leaves the cell as it is, or is the last so far that changed it.
use Rattle.std.proofs.Common.{◌≡◌, ◌+◌, ◌-◌, ◌≤◌, false, ◌∙◌, refl, ap, subst, arith}
use Rattle.{mars_core.specs.Round.{Round, is_over, after_turns}, koth_match.proofs.Kept.after_turns-settings, koth_replay.specs.{Ending.IsChange}}
use Rattle.koth_replay.proofs.{Writers.{change-next, on-before, turn_more, untouched-first}, Drawing.side-next, Histories.no-turns-yet}
use Rattle.koth_replay.proofs.ending.last_change.Goals as goal

pub loop-turn-init : goal.loop-turn-init
loop-turn-init g c = record {
  least = omega arith;
  now = no-turns-yet c.args.arena.now;
  change = untouched-first c.args.arena.now c.args.at;
  side = c.requires.first;
}

pub loop-turn-preserved : goal.loop-turn-preserved
loop-turn-preserved g c =
    let start = c.args.arena.now in
    let now = c.loop-turn.arena in
    let next = c.changed-change.new.arena in
    let turn = c.loop-turn.turn in
    let kept = c.loop-turn.invariant in
    let after = c.changed-change.ensures.after in
    let same : turn ≡ turn + 1 - 1 = omega arith in
    let within : turn - 1 ≤ c.args.before - 1 = omega arith in
    let on : is_over now ≡ false = ap is_over kept.now ∙ on-before (turn - 1) (c.args.before - 1) start within c.requires.on in
    record {
      least = omega arith;
      now = turn_more start now next turn kept.least kept.now after ∙ ap (λ n. after_turns n start) same;
      change = change-next start now next c.args.at turn c.loop-turn.change c.changed-change.result _ kept.least kept.now after refl kept.side c.changed-change.ensures.change kept.change;
      side = side-next c.loop-turn.side c.other-side.result now next on after kept.side c.other-side.ensures;
    }

pub returns : goal.returns
returns g c =
    let all : c.loop-turn.turn ≡ c.args.before = omega (arith, c.requires.least, c.loop-turn.invariant.least) in
    record {
      change = subst (λ n. IsChange c.args.arena.now c.args.at n c.loop-turn.change) all c.loop-turn.invariant.change;
      settings = ap (λ (r : Round). r.settings) c.loop-turn.invariant.now ∙ after_turns-settings (c.loop-turn.turn - 1) c.args.arena.now;
    }
