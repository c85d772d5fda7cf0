use Rattle.{std.proofs.Common.{◌≡◌, ap, subst}, sector_disk.specs.{Disk.current, Served.Failed}, sector_disk.proofs.Kept.kept_on, hill_bytes.specs.Layout.new_layout}
use Rattle.hill_images.specs.{Found.IsNewestFound, Opening.RefusesIn, Reading.HillRefused, declared.refusal.Refusal.Refusal}
use Rattle.hill_images.proofs.{Openings.{if_err_map, reason_of}, WarriorsRead.rose_more}
use Rattle.hill_images.proofs.damage.first_damaged.Goals as goal

pub returns-in-Ok-Some-clause-refused : goal.returns-in-Ok-Some-clause-refused
returns-in-Ok-Some-clause-refused g c = λ lawful.
    if_err_map (HillRefused new_layout g.D.Device.facts c.newest_header.new.device c.first_of.new.device c.in-Ok-Some.header) (RefusesIn new_layout (g.D.Device.facts.size c.args.device.now) (current (g.D.Device.facts.disk c.args.device.now))) c.first_of.result
    (λ why. λ refused. reason_of g.D.Device.facts c.args.device.now c.newest_header.new.device c.first_of.new.device c.in-Ok-Some.header why c.in-Ok-Some.ensures.served.same_size c.in-Ok-Some.ensures.served.same_laws.1 (λ l. ap current (c.in-Ok-Some.ensures.kept l)) (λ l. subst (λ found. IsNewestFound new_layout (current (g.D.Device.facts.disk c.args.device.now)) found) c.in-Ok-Some.field-0-is (c.in-Ok-Some.ensures.found l)) refused lawful)
    c.first_of.ensures.refused

pub returns-in-Ok-Some-clause-cause : goal.returns-in-Ok-Some-clause-cause
returns-in-Ok-Some-clause-cause g c =
    if_err_map (HillRefused new_layout g.D.Device.facts c.newest_header.new.device c.first_of.new.device c.in-Ok-Some.header) (λ why. why ≡ Refusal.Disk → Failed g.D.Device.facts c.args.device.now c.first_of.new.device) c.first_of.result
    (λ why. λ refused. λ is. rose_more g.D.Device.facts c.args.device.now c.newest_header.new.device c.first_of.new.device c.in-Ok-Some.ensures.served.later c.first_of.ensures.kept.later (subst (λ x. HillRefused new_layout g.D.Device.facts c.newest_header.new.device c.first_of.new.device c.in-Ok-Some.header x) is refused))
    c.first_of.ensures.refused

pub returns-in-Ok-Some-clause-kept : goal.returns-in-Ok-Some-clause-kept
returns-in-Ok-Some-clause-kept g c =
    kept_on g.D.Device.facts c.args.device.now c.newest_header.new.device c.first_of.new.device
    (record { same_size = c.in-Ok-Some.ensures.served.same_size; same_laws = c.in-Ok-Some.ensures.served.same_laws; later = c.in-Ok-Some.ensures.served.later }) c.first_of.ensures.kept
