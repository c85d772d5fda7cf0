-- One cell more.
use Rattle.{std.proofs.Common.replicate, mars_core.specs.Cells.blank, koth_replay.proofs.Untold.{blank-there, change_told, now-found}}
use Rattle.koth_replay.proofs.changes.push_loaded.Goals as goal

pub loop-at-preserved : goal.loop-at-preserved
loop-at-preserved g c =
    change_told (replicate c.args.core blank) c.args.arena.now.core c.loop-at.at blank c.unwrap-now.result c.args.events.now.items c.loop-at.events.items _
    (blank-there c.args.core c.loop-at.at c.loop-at-test.true)
    (now-found c.args.arena.now.core c.loop-at.at c.cell.result c.unwrap-now.result c.cell.ensures.value c.unwrap-now.ensures)
    c.loop-at.invariant c.in_ok-push_change.ensures
