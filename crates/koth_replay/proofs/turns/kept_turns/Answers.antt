-- A turn adds its events to those so far; a round that is over stays as it is.
use Rattle.{std.proofs.Common.{◌≡◌, ◌+◌, length, true, false, ◌∙◌, sym, ap, refl, arith}, war_types.specs.declared.settings.RawSettings.RawSettings}
use Rattle.{mars_core.specs.Round.{Round, is_over, after_turn, after_turns}, koth_match.proofs.Kept.after_turn-settings, koth_replay.specs.Turn.turn_events}
use Rattle.koth_replay.proofs.{Drawing.side-next, Endings.{after_turn-used, stays-over}, Histories.{no-turns, no-turns-yet, one_more, turns-more}}
use Rattle.koth_replay.proofs.turns.kept_turns.Goals as goal

pub loop-turn-init : goal.loop-turn-init
loop-turn-init g c = record {
  turns = no-turns c.args.arena.now c.new-turns.result.items c.new-turns.ensures.items;
  many = ap length c.new-turns.ensures.items;
  now = no-turns-yet c.args.arena.now;
  used = omega arith;
  round = c.requires.round;
  settings = refl;
  side = c.requires.first;
}

-- the settings after a turn
kept-settings : (r next : Round) (s : RawSettings) → next ≡ after_turn r → r.settings ≡ s → next.settings ≡ s
kept-settings r next s is same = ap (λ (x : Round). x.settings) is ∙ after_turn-settings r ∙ same

pub returns-in_err-turn_events-clause-settings : goal.returns-in_err-turn_events-clause-settings
returns-in_err-turn_events-clause-settings g c =
    kept-settings c.loop-turn.arena c.turn_events.new.arena c.args.arena.now.settings c.turn_events.ensures.after c.loop-turn.invariant.settings

pub returns-in_err-push-in-Some-clause-settings : goal.returns-in_err-push-in-Some-clause-settings
returns-in_err-push-in-Some-clause-settings g c =
    kept-settings c.loop-turn.arena c.turn_events.new.arena c.args.arena.now.settings c.turn_events.ensures.after c.loop-turn.invariant.settings

pub returns-in-None-clause-settings : goal.returns-in-None-clause-settings
returns-in-None-clause-settings g c =
    kept-settings c.loop-turn.arena c.turn_events.new.arena c.args.arena.now.settings c.turn_events.ensures.after c.loop-turn.invariant.settings

pub returns-in-None-clause-after : goal.returns-in-None-clause-after
returns-in-None-clause-after g c =
    let over : is_over c.loop-turn.arena ≡ true = rw c.in-None.is at c.in_ok-turn_events.ensures.events in
    stays-over c.loop-turn.arena c.turn_events.new.arena over c.turn_events.ensures.after ∙ c.loop-turn.invariant.now
    ∙ ap (λ n. after_turns n c.args.arena.now) (sym c.loop-turn.invariant.many)

pub returns-in-None-clause-used : goal.returns-in-None-clause-used
returns-in-None-clause-used g c =
    let over : is_over c.loop-turn.arena ≡ true = rw c.in-None.is at c.in_ok-turn_events.ensures.events in
    ap (λ (r : Round). r.used) (stays-over c.loop-turn.arena c.turn_events.new.arena over c.turn_events.ensures.after) ∙ c.loop-turn.invariant.used
    ∙ ap (λ n. c.args.arena.now.used + n) (sym c.loop-turn.invariant.many)

pub returns-in-None-clause-over : goal.returns-in-None-clause-over
returns-in-None-clause-over g c = λ _.
    let over : is_over c.loop-turn.arena ≡ true = rw c.in-None.is at c.in_ok-turn_events.ensures.events in
    ap is_over (stays-over c.loop-turn.arena c.turn_events.new.arena over c.turn_events.ensures.after) ∙ over

pub loop-turn-preserved : goal.loop-turn-preserved
loop-turn-preserved g c =
    let now = c.loop-turn.arena in
    let kept = c.loop-turn.invariant in
    let told : (is_over now ≡ false) × (c.in-Some.events.items ≡ turn_events now) = rw c.in-Some.is at c.in_ok-turn_events.ensures.events in
    let once : c.turn_events.new.arena.used ≡ now.used + 1 = ap (λ (r : Round). r.used) c.turn_events.ensures.after ∙ after_turn-used now told.0 in
    record {
      turns = turns-more c.args.arena.now now c.turn_events.new.arena c.loop-turn._turn c.loop-turn.turns.items c.push.new.self.items c.in-Some.events
          kept.turns kept.many kept.now kept.round c.turn_events.ensures.after c.turn_events.ensures.round told.0 told.1 c.in_ok-push-in-Some.ensures.items;
      many = omega (arith, kept.many, c.in_ok-push-in-Some.ensures.len);
      now = one_more c.args.arena.now now c.turn_events.new.arena c.loop-turn._turn kept.now c.turn_events.ensures.after;
      used = omega (arith, once, kept.used);
      round = c.turn_events.ensures.round;
      settings = kept-settings now c.turn_events.new.arena c.args.arena.now.settings c.turn_events.ensures.after kept.settings;
      side = side-next c.loop-turn.side c.other-side.result now c.turn_events.new.arena told.0 c.turn_events.ensures.after kept.side c.other-side.ensures;
    }
