use Rattle.{std.proofs.Common.{ap, ◌∙◌, sym, arith, Some, slice_get, ◌≡◌, ◌≤◌}, mars_core.proofs.Windows.{opened, some-first}}
use Rattle.mars_core.proofs.window.Window.before.Goals.{in-Some, in-None}
use Rattle.mars_core.proofs.window.Window.before.Goals as goal

pub returns-clause-window : goal.returns-clause-window
returns-clause-window g c = λ places size.
    let small : c.match-get.front ≤ 65535 =
    elim c.match-get.branch [
      | in-Some w ↦ omega (arith, w.front-is, w.from-front.ensures)
      | in-None w ↦ omega (arith, w.front-is)
    ] in
    record {
      size = size;
      head = omega arith;
      front = small;
      room = c.room_before.ensures.value;
      count = omega arith;
      lives = c.requires;
      within = c.room_before.ensures.within;
      joined = λ _. omega arith;
    }

pub returns-clause-value : goal.returns-clause-value
returns-clause-value g c = λ places size.
    let first : slice_get c.args.queue.now.addresses 0 ≡ Some c.match-get.front =
    elim c.match-get.branch [
      | in-Some w ↦ sym c.get.ensures ∙ (w.in-Some.is ∙ ap Some (sym (w.front-is ∙ w.from-front.ensures)))
      | in-None w ↦ some-first c.args.queue.now.addresses c.match-get.front c.requires (sym c.get.ensures ∙ w.in-None.is)
    ] in
    opened 1024 c.match-get.front places c.args.queue.now size first
