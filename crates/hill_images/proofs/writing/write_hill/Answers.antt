use Rattle.{std.proofs.Common.{◌≤◌, refl, subst}, war_types.specs.declared.settings.RawSettings.RawSettings, sector_disk.specs.Disk.current, hill_bytes.specs.Layout.sectors_for}
use Rattle.{hill_images.specs.Opening.HoldsOneIf, hill_images.proofs.Creations.{cut_early, written_or_not}}
use Rattle.hill_images.proofs.writing.write_hill.Goals as goal

pub returns-in-Ok-false-clause-refused : goal.returns-in-Ok-false-clause-refused
returns-in-Ok-false-clause-refused g c =
    (written_or_not g.D.Device.facts c.args.device.now c.settled_and_holds.new.device c.put_or_refuse.new.device c.args.header.now c.args.hill.now
    (record { same_size = c.in-Ok-false.ensures.served.same_size; same_laws = c.in-Ok-false.ensures.served.same_laws; later = c.in-Ok-false.ensures.served.later })
    c.put_or_refuse.ensures.kept c.in-Ok-false.ensures.settled
    (λ lawful. subst (HoldsOneIf (current (g.D.Device.facts.disk c.args.device.now))) c.in-Ok-false.field-0-test (c.in-Ok-false.ensures.found lawful))
    c.put_or_refuse.result
    (subst (λ (s : RawSettings). sectors_for s.capacity ≤ g.D.Device.facts.size c.args.device.now) c.requires.named.settings c.requires.size)
    c.put_or_refuse.ensures.cause c.put_or_refuse.ensures.put).1

pub returns-in-Err-clause-refused : goal.returns-in-Err-clause-refused
returns-in-Err-clause-refused g c =
    cut_early g.D.Device.facts c.args.device.now c.settled_and_holds.new.device c.args.hill.now (c.in-Err.ensures.served.err refl) c.in-Err.ensures.settled
