use Rattle.{std.proofs.Common.{◌≡◌, subst, rules}, war_types.specs.Settings.AreSettings, koth_hill.specs.Kept.new_kept, sector_disk.specs.{Disk.current, Changes.{after, Begun}}}
use Rattle.{hill_bytes.specs.{Layout.{HeaderParts, new_layout}, declared.format.Format.Format}, hill_images.specs.{Opening.first_header, Places.commits}}
use Rattle.hill_images.proofs.Firsts.{first_committed, first_may, first_stopped}
use Rattle.hill_images.proofs.writing.commit_first.Goals as goal

pub returns-in-Ok-clause-put : goal.returns-in-Ok-clause-put
returns-in-Ok-clause-put g c = λ lawful. λ settled. λ none.
    let disk = g.D.Device.facts.disk in
    let s = c.args.settings in
    let are : AreSettings s = c.core-core.ensures.settings in
    let is : c.unwrap-header.result ≡ first_header s = search rules in
    first_committed new_layout (disk c.args.device.now) (disk c.commit.new.device) (first_header s) (new_kept s 0) (first_may new_layout s (current (disk c.args.device.now)) are are.length_most) (none Format.New)
    (subst (λ (h : HeaderParts). disk c.commit.new.device ≡ after (commits new_layout h) (disk c.args.device.now)) is (c.in-Ok.ensures.changes lawful))

pub returns-in-Err-clause-put : goal.returns-in-Err-clause-put
returns-in-Err-clause-put g c = λ lawful. λ settled. λ none.
    let disk = g.D.Device.facts.disk in
    let s = c.args.settings in
    let are : AreSettings s = c.core-core.ensures.settings in
    let is : c.unwrap-header.result ≡ first_header s = search rules in
    first_stopped (disk c.args.device.now) (disk c.commit.new.device) (first_header s) (new_kept s 0) (first_may new_layout s (current (disk c.args.device.now)) are are.length_most) settled none
    (subst (λ (h : HeaderParts). Begun (commits new_layout h) (disk c.args.device.now) (disk c.commit.new.device)) is (c.in-Err.ensures.changes lawful))
