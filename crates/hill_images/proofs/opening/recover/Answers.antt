use Rattle.{std.proofs.Common.{arith, subst}, sector_disk.specs.Disk.current, sector_disk.proofs.Kept.kept_on, hill_bytes.specs.Layout.layout_of}
use Rattle.hill_images.specs.{Found.IsNewestFound, Stands.IsNewestIn, Opening.{IsRecovered, IsNotOpenedIn}, Reading.{HillRefused, IsHillFound}}
use Rattle.hill_images.proofs.Openings.{if_ok_map, if_err_map, recovered, not_recovered}
use Rattle.hill_images.proofs.opening.recover.Goals as goal

pub returns-in-Ok-Some-clause-found : goal.returns-in-Ok-Some-clause-found
returns-in-Ok-Some-clause-found g c =
    if_ok_map (λ r. IsHillFound (layout_of c.args.format) g.D.Device.facts c.settled_header.new.device c.in-Ok-Some.header r.header r.hill r.arena.settings) (λ r. IsRecovered (layout_of c.args.format) g.D.Device.facts c.args.device.now c.recover_hill.new.device r.header r.hill r.arena.settings) c.recover_hill.result
    (λ r. λ found. recovered g.D.Device.facts c.args.device.now c.settled_header.new.device c.recover_hill.new.device c.in-Ok-Some.header r.header r.hill r.arena.settings (record { same_size = c.in-Ok-Some.ensures.served.same_size; same_laws = c.in-Ok-Some.ensures.served.same_laws; later = c.in-Ok-Some.ensures.served.later }) c.recover_hill.ensures.kept c.in-Ok-Some.ensures.settled c.recover_hill.ensures.same (λ lawful. subst (λ found. IsNewestFound (layout_of c.args.format) (current (g.D.Device.facts.disk c.args.device.now)) found) c.in-Ok-Some.field-0-is (c.in-Ok-Some.ensures.found lawful)) found)
    c.recover_hill.ensures.found

pub returns-in-Ok-Some-clause-refused : goal.returns-in-Ok-Some-clause-refused
returns-in-Ok-Some-clause-refused g c =
    if_err_map (HillRefused (layout_of c.args.format) g.D.Device.facts c.settled_header.new.device c.recover_hill.new.device c.in-Ok-Some.header) (IsNotOpenedIn (layout_of c.args.format) g.D.Device.facts c.args.device.now c.recover_hill.new.device) c.recover_hill.result
    (λ why. λ refused. not_recovered g.D.Device.facts c.args.device.now c.settled_header.new.device c.recover_hill.new.device c.in-Ok-Some.header why (record { same_size = c.in-Ok-Some.ensures.served.same_size; same_laws = c.in-Ok-Some.ensures.served.same_laws; later = c.in-Ok-Some.ensures.served.later }) c.recover_hill.ensures.kept c.in-Ok-Some.ensures.settled c.recover_hill.ensures.same (λ lawful. subst (λ found. IsNewestFound (layout_of c.args.format) (current (g.D.Device.facts.disk c.args.device.now)) found) c.in-Ok-Some.field-0-is (c.in-Ok-Some.ensures.found lawful)) refused)
    c.recover_hill.ensures.refused

pub recover_hill-requires : goal.recover_hill-requires
recover_hill-requires g c = λ lawful.
    let image = current (g.D.Device.facts.disk c.args.device.now) in
    let newest : IsNewestIn (layout_of c.args.format) image c.in-Ok-Some.header =
    subst (λ found. IsNewestFound (layout_of c.args.format) image found) c.in-Ok-Some.field-0-is (c.in-Ok-Some.ensures.found (c.in-Ok-Some.ensures.served.same_laws.0 lawful)) in
    newest.here.room

pub returns-in-Ok-Some-clause-kept : goal.returns-in-Ok-Some-clause-kept
returns-in-Ok-Some-clause-kept g c =
    kept_on g.D.Device.facts c.args.device.now c.settled_header.new.device c.recover_hill.new.device
    (record { same_size = c.in-Ok-Some.ensures.served.same_size; same_laws = c.in-Ok-Some.ensures.served.same_laws; later = c.in-Ok-Some.ensures.served.later }) c.recover_hill.ensures.kept

pub returns-in-Ok-Some-clause-small : goal.returns-in-Ok-Some-clause-small
returns-in-Ok-Some-clause-small g c = λ small. absurd (omega (arith, small, c.if-sectors-lt2.false, c.sectors.ensures))

pub returns-in-Ok-None-clause-small : goal.returns-in-Ok-None-clause-small
returns-in-Ok-None-clause-small g c = λ small. absurd (omega (arith, small, c.if-sectors-lt2.false, c.sectors.ensures))

pub returns-in-Err-clause-small : goal.returns-in-Err-clause-small
returns-in-Err-clause-small g c = λ small. absurd (omega (arith, small, c.if-sectors-lt2.false, c.sectors.ensures))
