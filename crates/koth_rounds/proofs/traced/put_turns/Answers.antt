-- One turn more.
use Rattle.std.proofs.Common.{◌≡◌, ◌++◌, ◌+◌, ◌-◌, ◌≤◌, ◌<◌, ℕ, List, length, slice_index_or, [], ap, ◌∙◌, arith, rules}
use Rattle.{std.specs.List.{flat_map, range_with_len}, mars_core.specs.Round.{Round, after_turns}, koth_replay.{specs.declared.event.Event.Event, proofs.Histories.one_more}}
use Rattle.{koth_rounds.specs.Turns.{executed, turn_at, turn_text, writer_at}, koth_rounds.proofs.Written.{none_so_far, one_more_put}}
use Rattle.koth_rounds.proofs.traced.put_turns.Goals as goal

pub loop-place-init : goal.loop-place-init
loop-place-init g c = record {
  least = omega arith;
  most = c.requires;
  now = c.skip.ensures;
  text = none_so_far (turn_at c.args.form c.args.core c.args.arena.now c.args.replay.now.turns c.args.story) c.args.text.now.items c.args.from c.args.from (omega arith);
}

pub loop-place-preserved : goal.loop-place-preserved
loop-place-preserved g c =
    let loop = c.loop-place in
    let place = loop.place in
    let start = c.args.arena.now in
    let turns = c.args.replay.now.turns in
    let below : place < length turns = search rules in
    let f = turn_at c.args.form c.args.core start turns c.args.story in
    let put : c.put_next.new.text.items ≡ loop.text.items ++ f place =
    c.in_ok-put_next.ensures
    ∙ ap (λ (r : Round). loop.text.items ++ turn_text c.args.form c.args.core (place + 1) (executed r.core c.events_of-events.result.now) c.events_of-events.result.now (writer_at c.args.story (place + 1))) loop.invariant.now
    ∙ ap (λ (es : List Event). loop.text.items ++ turn_text c.args.form c.args.core (place + 1) (executed (after_turns place start).core es) es (writer_at c.args.story (place + 1))) c.events_of-events.ensures in
    record {
      least = omega (arith, loop.invariant.least);
      most = omega (arith, below);
      now = one_more start loop.arena c.turn-turned.new.self place loop.invariant.now c.turn-turned.ensures.after;
      text = one_more_put f c.args.text.now.items c.args.from place loop.text.items c.put_next.new.text.items loop.invariant.least loop.invariant.text put;
    }

pub returns : goal.returns
returns g c =
    let turns = c.args.replay.now.turns in
    let all : c.loop-place.place ≡ length turns = omega (arith, c.turns-place-end.ensures, c.loop-place-test.false, c.loop-place.invariant.most) in
    c.loop-place.invariant.text
    ∙ ap (λ n. c.args.text.now.items ++ flat_map (turn_at c.args.form c.args.core c.args.arena.now turns c.args.story) (range_with_len c.args.from (n - c.args.from))) all
