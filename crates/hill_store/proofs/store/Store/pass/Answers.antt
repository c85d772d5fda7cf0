use Rattle.{std.proofs.Common.{◌≡◌, ◌<◌, ◌⊎◌, ◌+◌, ◌-◌, ◌^◌, refl, sym, ap, ◌∙◌, subst}, koth_hill.specs.Kept.{IsKept as IsKeptHill, hill_in, kept_fall, step_kept}}
use Rattle.{koth_hill.proofs.RowsKept.IsKept-fall, sector_disk.specs.{Changes.{after, Begun}, Image.Images, Served.IsKept}, sector_disk.proofs.Kept.kept_where_served}
use Rattle.{hill_bytes.specs.Layout.{HeaderParts, new_layout}, hill_images.specs.{Stands.Reads, Named.IsSound, Places.{header_passed, commits}}, hill_images.proofs.Submitted.hill_passed}
use Rattle.{hill_images.proofs.Exits.{pass_header, pass_sound, pass_reads, pass_step, pass_cut}, hill_store.specs.Seen.{Seen, seen, Challenges}, hill_store.proofs.{Newest.sound_newest, Replies.answers}}
use Rattle.hill_store.proofs.store.Store.pass.Goals as goal

pub header_passed-header-requires : goal.header_passed-header-requires
header_passed-header-requires g c =
    pass_header g.D.Device.facts c.self.inside.device c.self.inside.header c.self.inside.hill c.self.inside.arena.settings c.self.inside.reopen (record {
      sound = c.self.invariant;
      is_open = ap (λ (s : Seen _). s.reopen) c.self.view_is ∙ c.requires.is_open;
      more = subst (λ (s : Seen _). s.generation < 2 ^ 64 - 1) (sym c.self.view_is) c.requires.more;
    })

pub invariant_of-self : goal.invariant_of-self
invariant_of-self g c =
    subst (λ h. IsSound g.D.Device.facts c.commit.new.device h c.pass.new.self c.self.inside.arena.settings c.self.inside.reopen) (sym c.header_passed-header.ensures)
    (subst (λ hill. IsSound g.D.Device.facts c.commit.new.device (header_passed c.self.inside.header) hill c.self.inside.arena.settings c.self.inside.reopen) (sym c.pass.ensures.after)
    (pass_sound g.D.Device.facts c.self.inside.device c.commit.new.device c.self.inside.header c.self.inside.hill c.self.inside.arena.settings c.self.inside.reopen (record {
      sound = c.self.invariant;
      is_open = ap (λ (s : Seen _). s.reopen) c.self.view_is ∙ c.requires.is_open;
      more = subst (λ (s : Seen _). s.generation < 2 ^ 64 - 1) (sym c.self.view_is) c.requires.more;
    }) c.in-Ok.ensures.served.same_size c.in-Ok.ensures.served.same_laws.0
    (λ is_lawful. subst (λ h. g.D.Device.facts.disk c.commit.new.device ≡ after (commits new_layout h) (g.D.Device.facts.disk c.self.inside.device)) c.header_passed-header.ensures (c.in-Ok.ensures.changes is_lawful))))

pub returns-in-Ok-clause-challenges : goal.returns-in-Ok-clause-challenges
returns-in-Ok-clause-challenges g c = λ w. λ judged_is.
    let next : step_kept c.args.self.now.hill w ≡ kept_fall c.args.self.now.hill = pass_step c.args.self.now.hill w c.args.judged.now judged_is c.requires.falls in
    answers g.D.Device.facts c.args.self.now (seen c.commit.new.device c.pass.new.self c.header_passed-header.result.generation c.self.inside.reopen) w c.args.judged.now c.judged.result c.judged.ensures judged_is (record {
      was_open = c.requires.is_open;
      kept = subst IsKeptHill (sym c.pass.ensures.after) (IsKept-fall c.self.inside.hill c.self.invariant.kept (hill_passed (hill_in c.self.inside.hill) c.self.invariant.kept.hill));
      hill = c.pass.ensures.after ∙ ap (λ (s : Seen _). kept_fall s.hill) c.self.view_is ∙ sym next;
      generation = ap (λ (h : HeaderParts). h.generation) c.header_passed-header.ensures ∙ ap (λ (s : Seen _). s.generation + 1) c.self.view_is;
      faultless = c.in-Ok.ensures.served.ok refl ∙ ap (λ (s : Seen _). g.D.Device.facts.faults s.device) c.self.view_is;
      open_still = ap (λ (s : Seen _). s.reopen) c.self.view_is ∙ c.requires.is_open;
      newest = λ lawful.
          sound_newest g.D.Device.facts c.commit.new.device c.header_passed-header.result c.pass.new.self c.self.inside.arena.settings c.self.inside.reopen (invariant_of-self g c)
          (ap (λ (s : Seen _). s.reopen) c.self.view_is ∙ c.requires.is_open)
          (c.in-Ok.ensures.served.same_laws.1 (subst (λ (s : Seen _). g.D.Device.facts.lawful s.device) (sym c.self.view_is) lawful));
      reads = λ lawful.
          subst (λ hill. Images (g.D.Device.facts.disk c.commit.new.device) (λ image. Reads (g.D.Device.facts.size c.commit.new.device) image hill)) (sym next)
          (subst (λ (s : Seen _). Images (g.D.Device.facts.disk c.commit.new.device) (λ image. Reads (g.D.Device.facts.size c.commit.new.device) image (kept_fall s.hill))) c.self.view_is
          (pass_reads g.D.Device.facts c.self.inside.device c.commit.new.device c.self.inside.header c.self.inside.hill c.self.inside.arena.settings c.self.inside.reopen (record {
            sound = c.self.invariant;
            is_open = ap (λ (s : Seen _). s.reopen) c.self.view_is ∙ c.requires.is_open;
            more = subst (λ (s : Seen _). s.generation < 2 ^ 64 - 1) (sym c.self.view_is) c.requires.more;
          })
          c.in-Ok.ensures.served.same_size c.in-Ok.ensures.served.same_laws
          (λ is_lawful. subst (λ h. g.D.Device.facts.disk c.commit.new.device ≡ after (commits new_layout h) (g.D.Device.facts.disk c.self.inside.device)) c.header_passed-header.ensures (c.in-Ok.ensures.changes is_lawful))
          (subst (λ (s : Seen _). g.D.Device.facts.lawful s.device) (sym c.self.view_is) lawful)));
    })

pub returns-in-Err-clause-challenges : goal.returns-in-Err-clause-challenges
returns-in-Err-clause-challenges g c = λ w. λ judged_is.
    let next : step_kept c.args.self.now.hill w ≡ kept_fall c.args.self.now.hill = pass_step c.args.self.now.hill w c.args.judged.now judged_is c.requires.falls in
    subst (λ r. Challenges g.D.Device.facts c.args.self.now w r (seen c.commit.new.device c.self.inside.hill c.self.inside.header.generation c.fail.new.reopen)) (sym c.fail.ensures.reply) (record {
      was_open = c.requires.is_open;
      cause = subst (λ (s : Seen _). (g.D.Device.facts.faults s.device < g.D.Device.facts.faults c.commit.new.device) ⊎ (g.D.Device.facts.faults s.device ≡ 2 ^ 64 - 1)) c.self.view_is (c.in-Err.ensures.served.err refl);
      hill = ap (λ (s : Seen _). s.hill) c.self.view_is;
      generation = ap (λ (s : Seen _). s.generation) c.self.view_is;
      broken = c.fail.ensures.broken;
      reads = λ lawful.
          subst (λ hill. Images (g.D.Device.facts.disk c.commit.new.device) (λ image. Reads (g.D.Device.facts.size c.commit.new.device) image c.args.self.now.hill ⊎ Reads (g.D.Device.facts.size c.commit.new.device) image hill)) (sym next)
          (subst (λ (s : Seen _). Images (g.D.Device.facts.disk c.commit.new.device) (λ image. Reads (g.D.Device.facts.size c.commit.new.device) image s.hill ⊎ Reads (g.D.Device.facts.size c.commit.new.device) image (kept_fall s.hill))) c.self.view_is
          (pass_cut g.D.Device.facts c.self.inside.device c.commit.new.device c.self.inside.header c.self.inside.hill c.self.inside.arena.settings c.self.inside.reopen (record {
            sound = c.self.invariant;
            is_open = ap (λ (s : Seen _). s.reopen) c.self.view_is ∙ c.requires.is_open;
            more = subst (λ (s : Seen _). s.generation < 2 ^ 64 - 1) (sym c.self.view_is) c.requires.more;
          })
          c.in-Err.ensures.served.same_size
          (λ is_lawful. subst (λ h. Begun (commits new_layout h) (g.D.Device.facts.disk c.self.inside.device) (g.D.Device.facts.disk c.commit.new.device)) c.header_passed-header.ensures (c.in-Err.ensures.changes is_lawful))
          (subst (λ (s : Seen _). g.D.Device.facts.lawful s.device) (sym c.self.view_is) lawful)));
    })

pub returns-in-Ok-clause-kept : goal.returns-in-Ok-clause-kept
returns-in-Ok-clause-kept g c =
    subst (λ (s : Seen _). IsKept g.D.Device.facts s.device c.commit.new.device) c.self.view_is (kept_where_served g.D.Device.facts c.self.inside.device c.commit.new.device _ c.in-Ok.ensures.served)

pub returns-in-Err-clause-kept : goal.returns-in-Err-clause-kept
returns-in-Err-clause-kept g c =
    subst (λ (s : Seen _). IsKept g.D.Device.facts s.device c.commit.new.device) c.self.view_is (kept_where_served g.D.Device.facts c.self.inside.device c.commit.new.device _ c.in-Err.ensures.served)
