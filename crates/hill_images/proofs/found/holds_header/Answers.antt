use Rattle.{std.proofs.Common.{false, subst, rules}, sector_disk.specs.Disk.current, hill_images.specs.Found.HoldsIf, hill_images.proofs.Finds.holds_one}
use Rattle.hill_images.proofs.found.holds_header.Goals as goal

pub returns-else-even-clause-found : goal.returns-else-even-clause-found
returns-else-even-clause-found g c = λ lawful.
    let image = current (g.D.Device.facts.disk c.args.device.now) in
    holds_one image false c.in_ok-odd.odd (subst (HoldsIf 0 (image 0)) c.if-even.false (c.in_ok-even.ensures.found lawful))
    (subst (λ disk. HoldsIf 1 (current disk 1) c.in_ok-odd.odd) (c.in_ok-even.ensures.kept lawful) (c.in_ok-odd.ensures.found (search rules)))
