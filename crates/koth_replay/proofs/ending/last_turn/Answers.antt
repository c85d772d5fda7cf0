-- Each turn is the last so far; a round that is over stays as it is.
use Rattle.std.proofs.Common.{◌≡◌, ◌+◌, ◌*◌, true, false, ◌∙◌, refl, ap, arith}
use Rattle.{mars_core.specs.Round.{Round, is_over, after_turns}, koth_match.proofs.Kept.after_turns-settings, koth_replay.specs.Ending.IsFront}
use Rattle.koth_replay.proofs.{Drawing.side-next, Endings.{after_turn-used, ends-there, stays-over}, Falls.{made-next, made-there}, Histories.{no-turns-yet, one_more}}
use Rattle.koth_replay.proofs.ending.last_turn.Goals as goal

pub loop-turn-init : goal.loop-turn-init
loop-turn-init g c = record {
  now = no-turns-yet c.args.arena.now;
  last = refl;
  used = c.requires.used;
  round = c.requires.round;
  side = c.requires.first;
}

pub returns-in-None-clause-end : goal.returns-in-None-clause-end
returns-in-None-clause-end g c =
    let over : is_over c.loop-turn.arena ≡ true = rw c.in-None.is at c.next_turn.ensures.made in
    stays-over c.loop-turn.arena c.next_turn.new.arena over c.next_turn.ensures.after
    ∙ ends-there c.args.arena.now c.loop-turn.arena c.loop-turn.turn c.loop-turn.invariant.now over

pub returns-in-None-clause-last : goal.returns-in-None-clause-last
returns-in-None-clause-last g c =
    let over : is_over c.loop-turn.arena ≡ true = rw c.in-None.is at c.next_turn.ensures.made in
    made-there c.args.arena.now c.loop-turn.arena c.next_turn.new.arena c.loop-turn.last
    (stays-over c.loop-turn.arena c.next_turn.new.arena over c.next_turn.ensures.after) c.loop-turn.invariant.last

pub returns-in-None-clause-settings : goal.returns-in-None-clause-settings
returns-in-None-clause-settings g c =
    let over : is_over c.loop-turn.arena ≡ true = rw c.in-None.is at c.next_turn.ensures.made in
    ap (λ (r : Round). r.settings) (stays-over c.loop-turn.arena c.next_turn.new.arena over c.next_turn.ensures.after ∙ c.loop-turn.invariant.now)
    ∙ after_turns-settings c.loop-turn.turn c.args.arena.now

pub loop-turn-preserved : goal.loop-turn-preserved
loop-turn-preserved g c =
    let now = c.loop-turn.arena in
    let next = c.next_turn.new.arena in
    let kept = c.loop-turn.invariant in
    let told : (is_over now ≡ false) × IsFront c.loop-turn.side now (c.loop-turn.turn + 1) c.in-Some.made = rw c.in-Some.is at c.next_turn.ensures.made in
    let once : next.used ≡ now.used + 1 = ap (λ (r : Round). r.used) c.next_turn.ensures.after ∙ after_turn-used now told.0 in
    record {
      now = one_more c.args.arena.now now next c.loop-turn.turn kept.now c.next_turn.ensures.after;
      last = made-next c.args.arena.now now next c.in-Some.made c.loop-turn.turn c.loop-turn.side kept.now kept.used c.next_turn.ensures.after kept.side told.0 told.1;
      used = omega (arith, once, kept.used);
      round = c.next_turn.ensures.round;
      side = side-next c.loop-turn.side c.other-side.result now next told.0 c.next_turn.ensures.after kept.side c.other-side.ensures;
    }

pub returns : goal.returns
returns g c =
    let all : c.loop-turn.turn ≡ 2 * c.args.arena.now.settings.cycles = omega (arith, c.requires.most) in
    record {
      end = c.loop-turn.invariant.now ∙ ap (λ n. after_turns n c.args.arena.now) all;
      last = c.loop-turn.invariant.last;
      settings = ap (λ (r : Round). r.settings) c.loop-turn.invariant.now ∙ after_turns-settings c.loop-turn.turn c.args.arena.now;
    }
