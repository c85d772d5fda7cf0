use Rattle.{std.proofs.Common.{subst, rules}, sector_disk.specs.Disk.current, hill_bytes.specs.Layout.layout_of, hill_images.specs.Found.IsFoundIn}
use Rattle.hill_images.proofs.found.newest_header.Goals as goal

pub returns-clause-found : goal.returns-clause-found
returns-clause-found g c = λ lawful.
    c.newer.ensures (layout_of c.args.format) (current (g.D.Device.facts.disk c.args.device.now)) (c.in_ok-even.ensures.found lawful)
    (subst (λ disk. IsFoundIn (layout_of c.args.format) 1 (current disk 1) c.in_ok-odd.odd) (c.in_ok-even.ensures.kept lawful) (c.in_ok-odd.ensures.found (search rules)))
