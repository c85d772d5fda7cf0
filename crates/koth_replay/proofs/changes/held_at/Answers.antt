-- One cell more.
use Rattle.{std.proofs.Common.refl, koth_replay.proofs.Untold.{held_more, now-found}}
use Rattle.koth_replay.proofs.changes.held_at.Goals as goal

pub loop-place-preserved : goal.loop-place-preserved
loop-place-preserved g c =
    held_more c.args.arena.now.core c.args.addresses.now c.told-addresses c.loop-place.held _ c.loop-place.place _ c.unwrap.result c.loop-place-test.true c.loop-place.invariant refl
    (now-found c.args.arena.now.core _ c.cell.result c.unwrap.result c.cell.ensures.value c.unwrap.ensures) refl
