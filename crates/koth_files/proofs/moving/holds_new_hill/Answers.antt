-- The sectors are read one after the other.
use Rattle.{std.proofs.Common.{subst, rules}, sector_disk.specs.Disk.current, koth_files.{specs.Moving.IsNewIf, proofs.Moves.holds_new}}
use Rattle.koth_files.proofs.moving.holds_new_hill.Goals as goal

pub returns-clause-found : goal.returns-clause-found
returns-clause-found g c = λ lawful.
    let image = current (g.D.Device.facts.disk c.args.device.now) in
    holds_new image c.in_ok-even.even c.in_ok-odd.odd (c.in_ok-even.ensures.found lawful)
    (subst (λ disk. IsNewIf 1 (current disk 1) c.in_ok-odd.odd) (c.in_ok-even.ensures.kept lawful) (c.in_ok-odd.ensures.found (search rules)))
