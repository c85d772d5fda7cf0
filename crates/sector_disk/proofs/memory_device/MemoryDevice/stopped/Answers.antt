use Rattle.{std.proofs.{Common.{◌≡◌, length, ap, ◌∙◌, arith}, lemmas.Grind.common_steps}, sector_disk.specs.Memory.memory_size, sector_disk.proofs.Sectors.{disk-stopped, image-stopped, stopped_more}}
use Rattle.sector_disk.proofs.memory_device.MemoryDevice.stopped.Goals as goal

pub loop-n-preserved : goal.loop-n-preserved
loop-n-preserved g c = rw c.in_ok-push.ensures.items (stopped_more _ _ _ _ _ c.loop-n.invariant (grind (arith, common_steps)))

pub returns-clause-image : goal.returns-clause-image
returns-clause-image g c =
    let same : length c.deref-sector-items.result.now ≡ length c.args.self.now.sectors =
    ap length c.deref-sector-items.ensures.value ∙ ap memory_size c.self.view_is
    in disk-stopped c.args.choice.now c.args.self.now.sectors c.loop-n.sectors.items c.loop-n.n c.loop-n.invariant (omega (arith, same, c.loop-n-test.false, c.loop-n.auto.n-end))

pub returns-clause-possible : goal.returns-clause-possible
returns-clause-possible g c =
    let same : length c.deref-sector-items.result.now ≡ length c.args.self.now.sectors =
    ap length c.deref-sector-items.ensures.value ∙ ap memory_size c.self.view_is
    in image-stopped c.args.choice.now c.args.self.now.sectors c.loop-n.sectors.items c.loop-n.n c.loop-n.invariant (omega (arith, same, c.loop-n-test.false, c.loop-n.auto.n-end))

pub returns-clause-size : goal.returns-clause-size
returns-clause-size g c =
    let same : length c.deref-sector-items.result.now ≡ length c.args.self.now.sectors =
    ap length c.deref-sector-items.ensures.value ∙ ap memory_size c.self.view_is
    in omega (arith, same, c.loop-n-test.false, c.loop-n.auto.n-end, c.loop-n.invariant.count)
