use Rattle.{std.proofs.Common.{◌≤◌, false, arith, refl, sym, ap, subst}, mars_core.specs.Round.Round, koth_hill.specs.Kept.new_kept, hill_bytes.specs.Layout.{HeaderParts, sectors_for}}
use Rattle.{hill_images.proofs.Submitted.ready_reads, hill_store.proofs.{Decided.{created_holds, first_sound}, Newest.sound_newest}}
use Rattle.hill_store.proofs.store.Store.create.Goals as goal

pub invariant_of-result : goal.invariant_of-result
invariant_of-result g c =
    let room : sectors_for c.args.settings.capacity ≤ g.D.Device.facts.size c.args.device = omega (arith, c.if-sectors-sectors_for.false, c.sectors.ensures, c.sectors_for.ensures, c.capacity.ensures.value) in
    first_sound g.D.Device.facts c.args.device c.write_first.new.device c.args.settings c.in-Ok-write_first.header c.in-Ok.hill c.in-Ok-new.arena.settings
    c.in-Ok-write_first.ensures.first c.in-Ok.ensures (ap (λ (a : Round). a.settings) c.in-Ok-new.ensures) room c.in-Ok-write_first.ensures.kept

pub returns-in-Ok-write_first-clause-created : goal.returns-in-Ok-write_first-clause-created
returns-in-Ok-write_first-clause-created g c = record {
  hill = c.in-Ok.ensures;
  generation = ap (λ (h : HeaderParts). h.generation) c.in-Ok-write_first.ensures.first.first;
  faultless = c.in-Ok-write_first.ensures.faultless;
  open_now = refl;
  was_none = c.in-Ok-write_first.ensures.first.written.was_none;
  newest = λ lawful.
      sound_newest g.D.Device.facts c.write_first.new.device c.in-Ok-write_first.header c.in-Ok.hill c.in-Ok-new.arena.settings false (invariant_of-result g c) refl
      (c.in-Ok-write_first.ensures.kept.same_laws.1 lawful);
  stands = λ lawful. ready_reads (g.D.Device.facts.size c.write_first.new.device) (g.D.Device.facts.disk c.write_first.new.device) c.in-Ok-write_first.header (new_kept c.args.settings 0)
      (subst (λ n. sectors_for c.args.settings.capacity ≤ n) (sym c.in-Ok-write_first.ensures.kept.same_size)
      (omega (arith, c.if-sectors-sectors_for.false, c.sectors.ensures, c.sectors_for.ensures, c.capacity.ensures.value)))
      (c.in-Ok-write_first.ensures.first.written.ready lawful);
}

pub returns-in-Ok-write_first-clause-holds : goal.returns-in-Ok-write_first-clause-holds
returns-in-Ok-write_first-clause-holds g c = λ lawful.
    created_holds g.D.Device.facts c.args.device c.args.settings _ c.in-Ok-write_first.ensures.kept (returns-in-Ok-write_first-clause-created g c) lawful
