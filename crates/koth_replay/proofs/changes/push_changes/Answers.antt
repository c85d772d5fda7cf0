-- The events of one cell more: no cell before it can have changed since the last one, and in the end no cell after it.
use Rattle.{std.proofs.Common.{ℕ, ◌<◌, ◌++◌, ◌∙◌, List, length, slice_index, sym, ap, arith}, koth_replay.specs.declared.event.Event.Event}
use Rattle.koth_replay.proofs.Untold.{change_told, held_there, none_before, none_behind, now-found}
use Rattle.koth_replay.proofs.changes.push_changes.Goals as goal

pub loop-place-preserved : goal.loop-place-preserved
loop-place-preserved g c =
    let addresses : List ℕ = c.args.addresses.now in
    let place : ℕ = c.in-Some.place in
    let start : List Event = c.args.events.now.items in
    let inside : place < length addresses = omega (arith, c.in-Some.ensures.inside, c.told-addresses) in
    record {
      events = λ before held_is same.
          change_told before c.args.arena.now.core (slice_index addresses place) _ c.unwrap-now.result start c.loop-place.events.items _
          (held_there before addresses c.told-addresses c.args.held.now place _ c.in-Some.ensures.inside held_is)
          (now-found c.args.arena.now.core (slice_index addresses place) c.cell.result c.unwrap-now.result c.cell.ensures.value c.unwrap-now.ensures)
          (c.loop-place.invariant.events before held_is same
          ∙ ap (λ l. start ++ l) (sym (none_before addresses before c.args.arena.now.core c.loop-place.from c.told-addresses same place c.in-Some.ensures)))
          c.in_ok-push_change.ensures;
      within = omega (arith, c.requires.here place 0 inside);
    }

pub returns : goal.returns
returns g c = λ before held_is same.
    c.loop-place.invariant.events before held_is same
    ∙ ap (λ l. c.args.events.now.items ++ l) (sym (none_behind c.args.addresses.now before c.args.arena.now.core c.loop-place.from c.told-addresses same c.args.core c.loop-place.invariant.within c.in_default.ensures))
