use Rattle.std.proofs.Common.{◌≡◌, ◌⊎◌, ◌≤◌, inl, OnOk, ap, arith, subst}
use Rattle.{war_types.specs.declared.settings.RawSettings.RawSettings, sector_disk.specs.Image.Images, hill_bytes.specs.Layout.sectors_for, hill_images.specs.{Opening.HoldsNone, Stands.Reads}}
use Rattle.hill_store.{specs.{Read.IsCopied, Seen.Seen}, proofs.Copying.{copied, fresh}}
use Rattle.hill_store.proofs.store.Store.copy_to.Goals as goal

pub returns-then-sectors-sectors_for-clause-fresh : goal.returns-then-sectors-sectors_for-clause-fresh
returns-then-sectors-sectors_for-clause-fresh g c = λ lawful none image is. inl (none image is)

pub returns-clause-copied : goal.returns-clause-copied
returns-clause-copied g c =
    let enough : sectors_for c.self.inside.header.settings.capacity ≤ g.N.Device.facts.size c.args.new.now =
    omega (arith, c.if-sectors-sectors_for.false, c.sectors.ensures, c.sectors_for.ensures, c.capacity.ensures.value, ap (λ (s : RawSettings). s.capacity) c.settings.ensures.value) in
    let room : sectors_for c.self.inside.hill.settings.capacity ≤ g.N.Device.facts.size c.args.new.now =
    subst (λ (s : RawSettings). sectors_for s.capacity ≤ g.N.Device.facts.size c.args.new.now) c.self.invariant.named.settings enough in
    subst (λ (s : Seen _). OnOk c.write_hill.result (IsCopied g.N.Device.facts s.hill s.generation c.args.new.now c.write_hill.new.device)) c.self.view_is
    (copied g.N.Device.facts c.args.new.now c.write_hill.new.device c.self.inside.header c.self.inside.hill c.write_hill.ensures.kept room c.write_hill.result c.write_hill.ensures.written)

pub returns-clause-fresh : goal.returns-clause-fresh
returns-clause-fresh g c =
    let enough : sectors_for c.self.inside.header.settings.capacity ≤ g.N.Device.facts.size c.args.new.now =
    omega (arith, c.if-sectors-sectors_for.false, c.sectors.ensures, c.sectors_for.ensures, c.capacity.ensures.value, ap (λ (s : RawSettings). s.capacity) c.settings.ensures.value) in
    let room : sectors_for c.self.inside.hill.settings.capacity ≤ g.N.Device.facts.size c.args.new.now =
    subst (λ (s : RawSettings). sectors_for s.capacity ≤ g.N.Device.facts.size c.args.new.now) c.self.invariant.named.settings enough in
    subst (λ (s : Seen _). g.N.Device.facts.lawful c.args.new.now → Images (g.N.Device.facts.disk c.args.new.now) HoldsNone
    → Images (g.N.Device.facts.disk c.write_hill.new.device) (λ image. HoldsNone image ⊎ Reads (g.N.Device.facts.size c.write_hill.new.device) image s.hill)) c.self.view_is
    (fresh g.N.Device.facts c.args.new.now c.write_hill.new.device c.self.inside.header c.self.inside.hill c.write_hill.ensures.kept room c.write_hill.result c.write_hill.ensures.written c.write_hill.ensures.refused)
