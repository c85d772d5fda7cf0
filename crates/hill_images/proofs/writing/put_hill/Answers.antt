use Rattle.{sector_disk.proofs.Images.images_settled, hill_images.specs.Opening.HoldsNone, hill_images.proofs.Puts.{none_synced, put_early, put_late, put_made}}
use Rattle.hill_images.proofs.writing.put_hill.Goals as goal

pub returns-in_err-write_members-clause-put : goal.returns-in_err-write_members-clause-put
returns-in_err-write_members-clause-put g c = λ lawful. λ settled. λ none.
    put_early g.D.Device.facts c.args.header.now c.args.hill.now c.write_members.new.device c.from_residual.result c.from_residual.ensures.0
    (c.in_err-write_members.ensures.none lawful (images_settled (g.D.Device.facts.disk c.args.device.now) HoldsNone settled none))

pub returns-in_err-sync-clause-put : goal.returns-in_err-sync-clause-put
returns-in_err-sync-clause-put g c = λ lawful. λ settled. λ none.
    let disk = g.D.Device.facts.disk in
    put_early g.D.Device.facts c.args.header.now c.args.hill.now c.sync.new.self c.from_residual-in_err-sync.result c.from_residual-in_err-sync.ensures.0
    (none_synced (disk c.write_members.new.device) (disk c.sync.new.self) (c.in_ok-write_members.ensures.none lawful (images_settled (disk c.args.device.now) HoldsNone settled none))
    (c.in_err-sync.ensures.changes (c.in_ok-write_members.ensures.served.same_laws.1 lawful)))

pub returns-in_err-commit-clause-put : goal.returns-in_err-commit-clause-put
returns-in_err-commit-clause-put g c = λ lawful. λ settled. λ none.
    let disk = g.D.Device.facts.disk in
    let lawful_mid = c.in_ok-write_members.ensures.served.same_laws.1 lawful in
    put_late g.D.Device.facts c.args.header.now c.args.hill.now (disk c.write_members.new.device) c.sync.new.self c.commit.new.device c.in_ok-write_members.ensures.header c.requires.named
    (c.in_ok-write_members.ensures.none lawful (images_settled (disk c.args.device.now) HoldsNone settled none)) (c.in_ok-write_members.ensures.stored lawful) (c.in_ok-sync.ensures.changes lawful_mid)
    c.from_residual-in_err-commit.result c.from_residual-in_err-commit.ensures.0 (c.in_err-commit.ensures.changes (c.in_ok-sync.ensures.served.same_laws.1 lawful_mid))

pub returns-clause-put : goal.returns-clause-put
returns-clause-put g c = λ lawful. λ settled. λ none.
    let disk = g.D.Device.facts.disk in
    let lawful_mid = c.in_ok-write_members.ensures.served.same_laws.1 lawful in
    put_made g.D.Device.facts c.args.header.now c.args.hill.now (disk c.write_members.new.device) c.sync.new.self c.commit.new.device c.in_ok-write_members.ensures.header c.requires.named
    (c.in_ok-write_members.ensures.none lawful (images_settled (disk c.args.device.now) HoldsNone settled none)) (c.in_ok-write_members.ensures.stored lawful) (c.in_ok-sync.ensures.changes lawful_mid)
    (c.in_ok-commit.ensures.changes (c.in_ok-sync.ensures.served.same_laws.1 lawful_mid))
