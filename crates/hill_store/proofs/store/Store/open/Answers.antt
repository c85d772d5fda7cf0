use Rattle.{std.proofs.Common.refl, hill_images.proofs.Exits.sound_reads, hill_store.proofs.Decided.{decided, undecided}}
use Rattle.hill_store.proofs.store.Store.open.Goals as goal

pub returns-in-Ok-clause-opened : goal.returns-in-Ok-clause-opened
returns-in-Ok-clause-opened g c = record {
  open_now = refl;
  generation = λ lawful. (c.in-Ok.found.header, (c.in-Ok.ensures.found.shows lawful).newest, refl);
  faultless = c.in-Ok.ensures.faultless;
  synced_now = c.in-Ok.ensures.found.synced_now;
  reads_as = λ lawful. record { header = c.in-Ok.found.header; shows = c.in-Ok.ensures.found.shows lawful; room = c.in-Ok.ensures.found.room };
  reads = λ lawful. sound_reads g.D.Device.facts c.recover.new.device c.in-Ok.found.header c.in-Ok.found.hill c.in-Ok.found.arena.settings _ c.in-Ok.ensures.found.sound refl (c.in-Ok.ensures.kept.same_laws.1 lawful);
}

pub returns-in-Ok-clause-holds : goal.returns-in-Ok-clause-holds
returns-in-Ok-clause-holds g c = λ s. λ sources. λ more. λ lawful. λ held.
    decided g.D.Device.facts c.args.device s sources more _ c.in-Ok.ensures.kept (returns-in-Ok-clause-opened g c) lawful held

pub returns-in-Err-clause-holds : goal.returns-in-Err-clause-holds
returns-in-Err-clause-holds g c = λ s. λ sources. λ more. λ lawful. λ held.
    undecided g.D.Device.facts c.args.device s sources more c.recover.new.device _ c.in-Err.ensures.kept c.in-Err.ensures.refused lawful held
