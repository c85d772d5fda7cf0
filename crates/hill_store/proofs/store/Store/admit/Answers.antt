use Rattle.{std.proofs.Common.{◌≡◌, ◌<◌, ◌⊎◌, ◌+◌, ◌-◌, ◌^◌, ◌≤◌, All, List, length, arith, refl, sym, ap, ◌∙◌, subst}, war_types.specs.declared.settings.RawSettings.RawSettings}
use Rattle.{war_types.specs.Warrior.Fits, koth_hill.specs.Kept.{IsKept as IsKeptHill, step_kept, verdict_kept}, sector_disk.specs.{Changes.{after, Begun}, Image.Images, Served.IsKept}}
use Rattle.{sector_disk.proofs.Kept.kept_where_served, hill_bytes.specs.{declared.header.HeaderEntry.HeaderEntry, Layout.HeaderParts}}
use Rattle.{hill_images.specs.{Stands.Reads, Named.IsSound, Places.header_placed}, hill_images.proofs.{Nexts.slots_low, Exits.{admit_header, admit_sound, admit_cut, admit_reads}}}
use Rattle.{hill_store.specs.Seen.{Seen, seen, Challenges}, hill_store.proofs.{Newest.sound_newest, Replies.answers, Written.{may_admit, places_are, results_are, results_each}}}
use Rattle.hill_store.proofs.store.Store.admit.Goals as goal

pub header_placed-header-requires : goal.header_placed-header-requires
header_placed-header-requires g c =
    admit_header g.D.Device.facts c.self.inside.device c.self.inside.header c.self.inside.hill c.self.inside.arena.settings c.self.inside.reopen c.args.warrior c.args.judged.now c.free_slot-slot.result
    (may_admit g.D.Device.facts c.self.inside.device c.self.inside.header c.self.inside.hill c.self.inside.arena.settings c.self.inside.reopen c.args.warrior c.args.judged.now c.free_slot-slot.result c.args.self.now c.entries.result.now c.self.view_is c.self.invariant c.requires.is_open c.requires.more c.requires.fits c.requires.verdict c.requires.stays c.entries.ensures.value c.free_slot-slot.ensures.free c.free_slot-slot.ensures.within)

pub results_by_slot-results-requires-clause-each : goal.results_by_slot-results-requires-clause-each
results_by_slot-results-requires-clause-each g c =
    results_each c.self.inside.header c.self.inside.hill c.args.warrior c.args.judged.now c.entries-2.result.now c.bouts.result.now c.self.invariant.named.entries c.entries-2.ensures.value c.bouts.ensures
    (c.requires.verdict ∙ ap (λ (s : Seen _). verdict_kept s.hill c.args.warrior) (sym c.self.view_is))

pub invariant_of-self : goal.invariant_of-self
invariant_of-self g c =
    subst (λ h. IsSound g.D.Device.facts c.place.new.device h c.admit.new.self c.self.inside.arena.settings c.self.inside.reopen) (sym c.header_placed-header.ensures)
    (subst (λ hill. IsSound g.D.Device.facts c.place.new.device (header_placed c.self.inside.header c.args.judged.now.falls c.free_slot-slot.result) hill c.self.inside.arena.settings c.self.inside.reopen) (sym c.admit.ensures.kept)
    (admit_sound g.D.Device.facts c.self.inside.device c.place.new.device c.self.inside.header c.self.inside.hill c.self.inside.arena.settings c.self.inside.reopen c.args.warrior c.args.judged.now c.free_slot-slot.result (may_admit g.D.Device.facts c.self.inside.device c.self.inside.header c.self.inside.hill c.self.inside.arena.settings c.self.inside.reopen c.args.warrior c.args.judged.now c.free_slot-slot.result c.args.self.now c.entries.result.now c.self.view_is c.self.invariant c.requires.is_open c.requires.more c.requires.fits c.requires.verdict c.requires.stays c.entries.ensures.value c.free_slot-slot.ensures.free c.free_slot-slot.ensures.within) c.in-Ok.ensures.titled c.in-Ok.ensures.served.same_size c.in-Ok.ensures.served.same_laws.0 (λ is_lawful. subst (λ changes. g.D.Device.facts.disk c.place.new.device ≡ after changes (g.D.Device.facts.disk c.self.inside.device)) (places_are c.self.inside.header c.header_placed-header.result c.self.inside.hill c.args.warrior c.args.judged.now c.free_slot-slot.result c.results_by_slot-results.result c.header_placed-header.ensures (results_are c.self.inside.header c.self.inside.hill c.args.warrior c.args.judged.now c.results_by_slot-results.result c.entries-2.result.now c.bouts.result.now c.results_by_slot-results.ensures.value c.entries-2.ensures.value c.bouts.ensures (c.requires.verdict ∙ ap (λ (s : Seen _). verdict_kept s.hill c.args.warrior) (sym c.self.view_is)))) (c.in-Ok.ensures.changes is_lawful))))

pub returns-in-Ok-clause-challenges : goal.returns-in-Ok-clause-challenges
returns-in-Ok-clause-challenges g c =
    let sound : IsSound g.D.Device.facts c.place.new.device (header_placed c.self.inside.header c.args.judged.now.falls c.free_slot-slot.result) (step_kept c.self.inside.hill c.args.warrior) c.self.inside.arena.settings c.self.inside.reopen =
    (admit_sound g.D.Device.facts c.self.inside.device c.place.new.device c.self.inside.header c.self.inside.hill c.self.inside.arena.settings c.self.inside.reopen c.args.warrior c.args.judged.now c.free_slot-slot.result (may_admit g.D.Device.facts c.self.inside.device c.self.inside.header c.self.inside.hill c.self.inside.arena.settings c.self.inside.reopen c.args.warrior c.args.judged.now c.free_slot-slot.result c.args.self.now c.entries.result.now c.self.view_is c.self.invariant c.requires.is_open c.requires.more c.requires.fits c.requires.verdict c.requires.stays c.entries.ensures.value c.free_slot-slot.ensures.free c.free_slot-slot.ensures.within) c.in-Ok.ensures.titled c.in-Ok.ensures.served.same_size c.in-Ok.ensures.served.same_laws.0 (λ is_lawful. subst (λ changes. g.D.Device.facts.disk c.place.new.device ≡ after changes (g.D.Device.facts.disk c.self.inside.device)) (places_are c.self.inside.header c.header_placed-header.result c.self.inside.hill c.args.warrior c.args.judged.now c.free_slot-slot.result c.results_by_slot-results.result c.header_placed-header.ensures (results_are c.self.inside.header c.self.inside.hill c.args.warrior c.args.judged.now c.results_by_slot-results.result c.entries-2.result.now c.bouts.result.now c.results_by_slot-results.ensures.value c.entries-2.ensures.value c.bouts.ensures (c.requires.verdict ∙ ap (λ (s : Seen _). verdict_kept s.hill c.args.warrior) (sym c.self.view_is)))) (c.in-Ok.ensures.changes is_lawful))) in
    answers g.D.Device.facts c.args.self.now (seen c.place.new.device c.admit.new.self c.header_placed-header.result.generation c.self.inside.reopen) c.args.warrior c.args.judged.now c.judged.result c.judged.ensures c.requires.verdict (record {
      was_open = c.requires.is_open;
      hill = c.admit.ensures.kept ∙ ap (λ (s : Seen _). step_kept s.hill c.args.warrior) c.self.view_is;
      kept = subst IsKeptHill (sym c.admit.ensures.kept) sound.kept;
      generation = ap (λ (h : HeaderParts). h.generation) c.header_placed-header.ensures ∙ ap (λ (s : Seen _). s.generation + 1) c.self.view_is;
      faultless = c.in-Ok.ensures.served.ok refl ∙ ap (λ (s : Seen _). g.D.Device.facts.faults s.device) c.self.view_is;
      open_still = ap (λ (s : Seen _). s.reopen) c.self.view_is ∙ c.requires.is_open;
      newest = λ lawful.
          sound_newest g.D.Device.facts c.place.new.device c.header_placed-header.result c.admit.new.self c.self.inside.arena.settings c.self.inside.reopen (invariant_of-self g c)
          (ap (λ (s : Seen _). s.reopen) c.self.view_is ∙ c.requires.is_open)
          (c.in-Ok.ensures.served.same_laws.1 (subst (λ (s : Seen _). g.D.Device.facts.lawful s.device) (sym c.self.view_is) lawful));
      reads = λ lawful.
          subst (λ (s : Seen _). Images (g.D.Device.facts.disk c.place.new.device) (λ image. Reads (g.D.Device.facts.size c.place.new.device) image (step_kept s.hill c.args.warrior))) c.self.view_is
          (admit_reads g.D.Device.facts c.self.inside.device c.place.new.device c.self.inside.header c.self.inside.hill c.self.inside.arena.settings c.self.inside.reopen c.args.warrior c.args.judged.now c.free_slot-slot.result
          (may_admit g.D.Device.facts c.self.inside.device c.self.inside.header c.self.inside.hill c.self.inside.arena.settings c.self.inside.reopen c.args.warrior c.args.judged.now c.free_slot-slot.result c.args.self.now c.entries.result.now c.self.view_is c.self.invariant c.requires.is_open c.requires.more c.requires.fits c.requires.verdict c.requires.stays c.entries.ensures.value c.free_slot-slot.ensures.free c.free_slot-slot.ensures.within)
          c.in-Ok.ensures.titled c.in-Ok.ensures.served.same_size c.in-Ok.ensures.served.same_laws
          (λ is_lawful. subst (λ changes. g.D.Device.facts.disk c.place.new.device ≡ after changes (g.D.Device.facts.disk c.self.inside.device)) (places_are c.self.inside.header c.header_placed-header.result c.self.inside.hill c.args.warrior c.args.judged.now c.free_slot-slot.result c.results_by_slot-results.result c.header_placed-header.ensures (results_are c.self.inside.header c.self.inside.hill c.args.warrior c.args.judged.now c.results_by_slot-results.result c.entries-2.result.now c.bouts.result.now c.results_by_slot-results.ensures.value c.entries-2.ensures.value c.bouts.ensures (c.requires.verdict ∙ ap (λ (s : Seen _). verdict_kept s.hill c.args.warrior) (sym c.self.view_is)))) (c.in-Ok.ensures.changes is_lawful))
          (subst (λ (s : Seen _). g.D.Device.facts.lawful s.device) (sym c.self.view_is) lawful));
    })

pub returns-in-Err-clause-challenges : goal.returns-in-Err-clause-challenges
returns-in-Err-clause-challenges g c =
    subst (λ r. Challenges g.D.Device.facts c.args.self.now c.args.warrior r (seen c.place.new.device c.self.inside.hill c.self.inside.header.generation c.fail.new.reopen)) (sym c.fail.ensures.reply) (record {
      was_open = c.requires.is_open;
      cause = subst (λ (s : Seen _). (g.D.Device.facts.faults s.device < g.D.Device.facts.faults c.place.new.device) ⊎ (g.D.Device.facts.faults s.device ≡ 2 ^ 64 - 1)) c.self.view_is (c.in-Err.ensures.served.err refl);
      hill = ap (λ (s : Seen _). s.hill) c.self.view_is;
      generation = ap (λ (s : Seen _). s.generation) c.self.view_is;
      broken = c.fail.ensures.broken;
      reads = λ lawful.
          subst (λ (s : Seen _). Images (g.D.Device.facts.disk c.place.new.device) (λ image. Reads (g.D.Device.facts.size c.place.new.device) image s.hill ⊎ Reads (g.D.Device.facts.size c.place.new.device) image (step_kept s.hill c.args.warrior))) c.self.view_is
          (admit_cut g.D.Device.facts c.self.inside.device c.place.new.device c.self.inside.header c.self.inside.hill c.self.inside.arena.settings c.self.inside.reopen c.args.warrior c.args.judged.now c.free_slot-slot.result
          (may_admit g.D.Device.facts c.self.inside.device c.self.inside.header c.self.inside.hill c.self.inside.arena.settings c.self.inside.reopen c.args.warrior c.args.judged.now c.free_slot-slot.result c.args.self.now c.entries.result.now c.self.view_is c.self.invariant c.requires.is_open c.requires.more c.requires.fits c.requires.verdict c.requires.stays c.entries.ensures.value c.free_slot-slot.ensures.free c.free_slot-slot.ensures.within)
          c.in-Err.ensures.titled c.in-Err.ensures.served.same_size
          (λ is_lawful. subst (λ changes. Begun changes (g.D.Device.facts.disk c.self.inside.device) (g.D.Device.facts.disk c.place.new.device)) (places_are c.self.inside.header c.header_placed-header.result c.self.inside.hill c.args.warrior c.args.judged.now c.free_slot-slot.result c.results_by_slot-results.result c.header_placed-header.ensures (results_are c.self.inside.header c.self.inside.hill c.args.warrior c.args.judged.now c.results_by_slot-results.result c.entries-2.result.now c.bouts.result.now c.results_by_slot-results.ensures.value c.entries-2.ensures.value c.bouts.ensures (c.requires.verdict ∙ ap (λ (s : Seen _). verdict_kept s.hill c.args.warrior) (sym c.self.view_is)))) (c.in-Err.ensures.changes is_lawful))
          (subst (λ (s : Seen _). g.D.Device.facts.lawful s.device) (sym c.self.view_is) lawful));
    })

pub returns-in-Ok-clause-kept : goal.returns-in-Ok-clause-kept
returns-in-Ok-clause-kept g c =
    subst (λ (s : Seen _). IsKept g.D.Device.facts s.device c.place.new.device) c.self.view_is (kept_where_served g.D.Device.facts c.self.inside.device c.place.new.device _ c.in-Ok.ensures.served)

pub returns-in-Err-clause-kept : goal.returns-in-Err-clause-kept
returns-in-Err-clause-kept g c =
    subst (λ (s : Seen _). IsKept g.D.Device.facts s.device c.place.new.device) c.self.view_is (kept_where_served g.D.Device.facts c.self.inside.device c.place.new.device _ c.in-Err.ensures.served)

pub free_slot-slot-requires : goal.free_slot-slot-requires
free_slot-slot-requires g c = omega (arith, ap length c.entries.ensures.value, c.entries.ensures.header.few, c.entries.ensures.header.settings.capacity_most)

pub results_by_slot-results-requires-clause-slots : goal.results_by_slot-results-requires-clause-slots
results_by_slot-results-requires-clause-slots g c =
    subst (λ (es : List HeaderEntry). All (λ e. e.slot ≤ 20) es) (sym c.entries-2.ensures.value) (slots_low c.self.inside.header c.entries-2.ensures.header)

pub place-requires : goal.place-requires
place-requires g c =
    omega (arith, c.free_slot-slot.ensures.within, ap length c.entries.ensures.value, c.entries.ensures.header.few, c.self.invariant.room, ap (λ (s : RawSettings). s.capacity) c.self.invariant.named.settings)

pub admit-requires-clause-fits : goal.admit-requires-clause-fits
admit-requires-clause-fits g c = subst (λ (s : Seen _). Fits s.hill.settings c.args.warrior) (sym c.self.view_is) c.requires.fits

pub admit-requires-clause-verdict : goal.admit-requires-clause-verdict
admit-requires-clause-verdict g c = c.requires.verdict ∙ ap (λ (s : Seen _). verdict_kept s.hill c.args.warrior) (sym c.self.view_is)

pub admit-requires-clause-stays : goal.admit-requires-clause-stays
admit-requires-clause-stays g c = c.requires.stays
