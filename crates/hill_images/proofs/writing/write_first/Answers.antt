use Rattle.{std.proofs.Common.{refl, subst}, koth_hill.specs.Kept.new_kept, sector_disk.specs.Disk.current, hill_images.specs.Opening.{HoldsOneIf, first_header}}
use Rattle.hill_images.proofs.Creations.{cut_early, written_or_not}
use Rattle.hill_images.proofs.writing.write_first.Goals as goal

pub returns-in-Ok-false-clause-refused : goal.returns-in-Ok-false-clause-refused
returns-in-Ok-false-clause-refused g c =
    (written_or_not g.D.Device.facts c.args.device.now c.settled_and_holds.new.device c.commit_first.new.device (first_header c.args.settings) (new_kept c.args.settings 0)
    (record { same_size = c.in-Ok-false.ensures.served.same_size; same_laws = c.in-Ok-false.ensures.served.same_laws; later = c.in-Ok-false.ensures.served.later })
    c.commit_first.ensures.kept c.in-Ok-false.ensures.settled
    (λ lawful. subst (HoldsOneIf (current (g.D.Device.facts.disk c.args.device.now))) c.in-Ok-false.field-0-test (c.in-Ok-false.ensures.found lawful))
    c.commit_first.result c.requires c.commit_first.ensures.cause c.commit_first.ensures.put).1

pub returns-in-Err-clause-refused : goal.returns-in-Err-clause-refused
returns-in-Err-clause-refused g c =
    cut_early g.D.Device.facts c.args.device.now c.settled_and_holds.new.device (new_kept c.args.settings 0) (c.in-Err.ensures.served.err refl) c.in-Err.ensures.settled
