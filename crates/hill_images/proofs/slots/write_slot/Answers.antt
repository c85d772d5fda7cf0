use Rattle.{std.proofs.{Common.{◌≡◌, ◌∙◌, ◌+◌, [], ◌∷◌, get_or, arith, ap, refl, subst, suc, sym, take}, lemmas.List.take_all}, sector_disk.specs.{Disk.wrote, Changes.{after, Begun}}}
use Rattle.{sector_disk.proofs.Kept.{kept_on, kept_where_served}, hill_bytes.specs.Layout.{new_layout, slot_at}, hill_images.specs.Places.writes_from}
use Rattle.hill_images.proofs.Sectors.{changes_cut, wrote_more, wrote_some}
use Rattle.hill_images.proofs.slots.write_slot.Goals as goal

pub returns-in_err-write-clause-changes : goal.returns-in_err-write-clause-changes
returns-in_err-write-clause-changes g c = λ lawful.
    let disk = g.D.Device.facts.disk in
    let sectors = c.args.content.now.sectors in
    changes_cut (writes_from (slot_at new_layout c.args.slot) sectors) (disk c.args.device.now) (disk c.write.new.self) c.from_residual.result c.from_residual.ensures.0
    (wrote_some c.loop-n.n (slot_at new_layout c.args.slot) sectors [] (disk c.args.device.now) (disk c.loop-n.device) (disk c.write.new.self)
    (omega (arith, c.loop-n-test.true, c.loop-n.invariant.long)) (c.loop-n.invariant.made lawful)
    (subst (λ at. Begun (wrote (at + c.loop-n.n) (get_or sectors c.loop-n.n []) ∷ []) (disk c.loop-n.device) (disk c.write.new.self)) c.slot_at-at.ensures (c.in_err-write.ensures.changes (c.loop-n.invariant.kept.same_laws.1 lawful))))

pub loop-n-preserved : goal.loop-n-preserved
loop-n-preserved g c =
    let disk = g.D.Device.facts.disk in
    let sectors = c.args.content.now.sectors in
    let more : c.loop-n.n + 1 ≡ suc c.loop-n.n = omega arith in record {
      kept = kept_on g.D.Device.facts c.args.device.now c.loop-n.device c.write.new.self c.loop-n.invariant.kept
          (kept_where_served g.D.Device.facts c.loop-n.device c.write.new.self _ c.in_ok-write.ensures.served);
      faultless = c.in_ok-write.ensures.served.ok refl ∙ c.loop-n.invariant.faultless;
      long = c.loop-n.invariant.long;
      made = λ lawful.
          subst (λ k. disk c.write.new.self ≡ after (writes_from (slot_at new_layout c.args.slot) (take k sectors)) (disk c.args.device.now)) (sym more)
          (wrote_more c.loop-n.n (slot_at new_layout c.args.slot) sectors [] (disk c.args.device.now) (disk c.loop-n.device) (disk c.write.new.self)
          (omega (arith, c.loop-n-test.true, c.loop-n.invariant.long)) (c.loop-n.invariant.made lawful)
          (subst (λ at. disk c.write.new.self ≡ wrote (at + c.loop-n.n) (get_or sectors c.loop-n.n []) (disk c.loop-n.device)) c.slot_at-at.ensures (c.in_ok-write.ensures.changes (c.loop-n.invariant.kept.same_laws.1 lawful))));
    }

pub returns-clause-changes : goal.returns-clause-changes
returns-clause-changes g c = λ lawful.
    let disk = g.D.Device.facts.disk in
    let sectors = c.args.content.now.sectors in
    c.loop-n.invariant.made lawful
    ∙ ap (λ xs. after (writes_from (slot_at new_layout c.args.slot) xs) (disk c.args.device.now)) (take_all c.loop-n.n sectors (omega (arith, c.loop-n-test.false, c.loop-n.invariant.long)))
