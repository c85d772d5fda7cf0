use Rattle.{std.proofs.Common.{◌<◌, ◌≤◌, false, ap, arith, refl, sym, subst}, war_types.specs.declared.settings.RawSettings.RawSettings, hill_bytes.specs.Layout.sectors_for}
use Rattle.{hill_images.specs.declared.refusal.Refusal.Refusal, hill_images.proofs.Submitted.ready_reads, hill_store.specs.{Opened.IsReadOf, declared.migration.MigrateSide.MigrateSide}}
use Rattle.hill_store.proofs.{Moving.{moved, not_migrated_by, taken_or_not, too_small, unmoved}, Newest.sound_newest}
use Rattle.hill_store.proofs.store.Store.migrate.Goals as goal

pub returns-in-Err-clause-refused : goal.returns-in-Err-clause-refused
returns-in-Err-clause-refused g c =
    not_migrated_by g.O.Device.facts g.D.Device.facts c.args.old c.recover.new.device c.args.new c.args.new c.in-Err.refusal MigrateSide.Old c.fault_of.result c.fault_of.ensures.side c.fault_of.ensures.refusal (c.in-Err.ensures.refused, refl)

pub returns-in-Err-clause-holds : goal.returns-in-Err-clause-holds
returns-in-Err-clause-holds g c = λ s. λ sources. λ more. λ lawful_old. λ lawful_new. λ holds.
    unmoved g.O.Device.facts g.D.Device.facts c.args.old c.recover.new.device s sources more lawful_old holds c.in-Err.ensures.kept c.args.new c.args.new c.fault_of.result lawful_new (returns-in-Err-clause-refused g c)

pub returns-then-sectors-sectors_for-clause-refused : goal.returns-then-sectors-sectors_for-clause-refused
returns-then-sectors-sectors_for-clause-refused g c =
    let few : g.D.Device.facts.size c.args.new < sectors_for c.in-Ok.found.header.settings.capacity =
    omega (arith, c.if-sectors-sectors_for.true, c.sectors.ensures, c.sectors_for.ensures, c.capacity.ensures.value, ap (λ (s : RawSettings). s.capacity) c.settings.ensures.value) in
    let read : IsReadOf g.O.Device.facts c.args.old c.recover.new.device c.in-Ok.found.hill = record {
      faultless = c.in-Ok.ensures.faultless;
      synced_now = c.in-Ok.ensures.found.synced_now;
      reads_as = λ lawful. record { header = c.in-Ok.found.header; shows = c.in-Ok.ensures.found.shows lawful; room = c.in-Ok.ensures.found.room };
    } in
    not_migrated_by g.O.Device.facts g.D.Device.facts c.args.old c.recover.new.device c.args.new c.args.new Refusal.TooSmall MigrateSide.New c.fault_of-fault.result c.fault_of-fault.ensures.side c.fault_of-fault.ensures.refusal
    (c.in-Ok.found.hill, read, too_small g.D.Device.facts c.args.new c.in-Ok.found.header c.in-Ok.found.hill c.in-Ok.ensures.found.sound.named.settings few)

pub returns-then-sectors-sectors_for-clause-holds : goal.returns-then-sectors-sectors_for-clause-holds
returns-then-sectors-sectors_for-clause-holds g c = λ s. λ sources. λ more. λ lawful_old. λ lawful_new. λ holds.
    unmoved g.O.Device.facts g.D.Device.facts c.args.old c.recover.new.device s sources more lawful_old holds c.in-Ok.ensures.kept c.args.new c.args.new c.fault_of-fault.result lawful_new (returns-then-sectors-sectors_for-clause-refused g c)

pub returns-in-Err-write_hill-clause-refused : goal.returns-in-Err-write_hill-clause-refused
returns-in-Err-write_hill-clause-refused g c =
    let enough : sectors_for c.in-Ok.found.header.settings.capacity ≤ g.D.Device.facts.size c.args.new =
    omega (arith, c.if-sectors-sectors_for.false, c.sectors.ensures, c.sectors_for.ensures, c.capacity.ensures.value, ap (λ (s : RawSettings). s.capacity) c.settings.ensures.value) in
    let read : IsReadOf g.O.Device.facts c.args.old c.recover.new.device c.in-Ok.found.hill = record {
      faultless = c.in-Ok.ensures.faultless;
      synced_now = c.in-Ok.ensures.found.synced_now;
      reads_as = λ lawful. record { header = c.in-Ok.found.header; shows = c.in-Ok.ensures.found.shows lawful; room = c.in-Ok.ensures.found.room };
    } in
    not_migrated_by g.O.Device.facts g.D.Device.facts c.args.old c.recover.new.device c.args.new c.write_hill.new.device c.in-Err-write_hill.refusal MigrateSide.New c.fault_of-in-Err-write_hill.result c.fault_of-in-Err-write_hill.ensures.side c.fault_of-in-Err-write_hill.ensures.refusal (
      c.in-Ok.found.hill,
      read,
      taken_or_not g.D.Device.facts c.args.new c.write_hill.new.device c.in-Ok.found.hill c.in-Err-write_hill.refusal
          (subst (λ (s : RawSettings). sectors_for s.capacity ≤ g.D.Device.facts.size c.args.new) c.in-Ok.ensures.found.sound.named.settings enough) c.in-Err-write_hill.ensures.refused,
    )

pub returns-in-Err-write_hill-clause-holds : goal.returns-in-Err-write_hill-clause-holds
returns-in-Err-write_hill-clause-holds g c = λ s. λ sources. λ more. λ lawful_old. λ lawful_new. λ holds.
    unmoved g.O.Device.facts g.D.Device.facts c.args.old c.recover.new.device s sources more lawful_old holds c.in-Ok.ensures.kept c.args.new c.write_hill.new.device c.fault_of-in-Err-write_hill.result lawful_new (returns-in-Err-write_hill-clause-refused g c)

pub invariant_of-store : goal.invariant_of-store
invariant_of-store g c =
    let enough : sectors_for c.in-Ok.found.header.settings.capacity ≤ g.D.Device.facts.size c.args.new =
    omega (arith, c.if-sectors-sectors_for.false, c.sectors.ensures, c.sectors_for.ensures, c.capacity.ensures.value, ap (λ (s : RawSettings). s.capacity) c.settings.ensures.value) in record {
      room = subst (λ n. sectors_for c.in-Ok.found.hill.settings.capacity ≤ n) (sym c.in-Ok-write_hill.ensures.kept.same_size)
          (subst (λ (s : RawSettings). sectors_for s.capacity ≤ g.D.Device.facts.size c.args.new) c.in-Ok.ensures.found.sound.named.settings enough);
      arena_of = c.in-Ok.ensures.found.sound.arena_of;
      header = c.in-Ok.ensures.found.sound.header;
      kept = c.in-Ok.ensures.found.sound.kept;
      named = c.in-Ok.ensures.found.sound.named;
      ready = λ lawful. λ is_open. c.in-Ok-write_hill.ensures.written.ready (c.in-Ok-write_hill.ensures.kept.same_laws.0 lawful);
    }

pub returns-in-Ok-write_hill-clause-migrated : goal.returns-in-Ok-write_hill-clause-migrated
returns-in-Ok-write_hill-clause-migrated g c = record {
  read = record {
    faultless = c.in-Ok.ensures.faultless;
    synced_now = c.in-Ok.ensures.found.synced_now;
    reads_as = λ lawful. record { header = c.in-Ok.found.header; shows = c.in-Ok.ensures.found.shows lawful; room = c.in-Ok.ensures.found.room };
  };
  generation = λ lawful. (c.in-Ok.found.header, (c.in-Ok.ensures.found.shows lawful).newest, refl);
  open_now = refl;
  faultless = c.in-Ok-write_hill.ensures.faultless;
  was_none = c.in-Ok-write_hill.ensures.written.was_none;
  newest = λ lawful.
      sound_newest g.D.Device.facts c.write_hill.new.device c.in-Ok.found.header c.in-Ok.found.hill c.in-Ok.found.arena.settings false (invariant_of-store g c) refl
      (c.in-Ok-write_hill.ensures.kept.same_laws.1 lawful);
  reads = λ lawful. ready_reads (g.D.Device.facts.size c.write_hill.new.device) (g.D.Device.facts.disk c.write_hill.new.device) c.in-Ok.found.header c.in-Ok.found.hill (invariant_of-store g c).room
      (c.in-Ok-write_hill.ensures.written.ready lawful);
}

pub returns-in-Ok-write_hill-clause-holds : goal.returns-in-Ok-write_hill-clause-holds
returns-in-Ok-write_hill-clause-holds g c = λ s. λ sources. λ more. λ lawful_old. λ lawful_new. λ holds.
    moved g.O.Device.facts g.D.Device.facts c.args.old c.recover.new.device s sources more lawful_old holds c.in-Ok.ensures.kept c.args.new _ c.in-Ok-write_hill.ensures.kept lawful_new (returns-in-Ok-write_hill-clause-migrated g c)

pub write_hill-requires-clause-size : goal.write_hill-requires-clause-size
write_hill-requires-clause-size g c =
    omega (arith, c.if-sectors-sectors_for.false, c.sectors.ensures, c.sectors_for.ensures, c.capacity.ensures.value, ap (λ (s : RawSettings). s.capacity) c.settings.ensures.value)

pub write_hill-requires-clause-named : goal.write_hill-requires-clause-named
write_hill-requires-clause-named g c = c.in-Ok.ensures.found.sound.named
