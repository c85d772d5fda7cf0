use Rattle.{std.proofs.Common.{◌≡◌, [], ◌∷◌, List, ℕ, Result, IsErr, inr, sym, ap, subst, ◌∙◌}, war_types.specs.Warrior.WarriorParts}
use Rattle.{sector_disk.specs.{Disk.{Disk, synced}, Changes.{after, Begun, Changes}}, sector_disk.proofs.Runs.{after-append, begun_front, begun_more}, hill_bytes.specs.declared.wins.Wins.Wins}
use Rattle.{hill_bytes.specs.Layout.{HeaderParts, new_layout, slot_at, slot_bytes}, hill_images.specs.Places.{commits, places, slot_writes, writes_from}, hill_images.proofs.Sectors.changes_cut}
use Rattle.hill_images.proofs.durable.place.Goals as goal

module _ (h : HeaderParts) (slot : ℕ) (w : WarriorParts) (results : List Wins) (sectors : List (List ℕ)) (is : sectors ≡ slot_bytes new_layout w results) where
  -- the slot was not written in full
  slot_cut : {T E : Type 0} (old new : Disk) (result : Result T E) → IsErr result → Begun (writes_from (slot_at new_layout slot) sectors) old new → Changes (places new_layout h slot w results) old new result
  slot_cut old new result err begun =
      changes_cut (places new_layout h slot w results) old new result err
      (begun_front (slot_writes new_layout slot w results) (synced ∷ commits new_layout h) old new
      (subst (λ xs. Begun (writes_from (slot_at new_layout slot) xs) old new) is begun))

  slot_made : (old mid : Disk) → mid ≡ after (writes_from (slot_at new_layout slot) sectors) old → mid ≡ after (slot_writes new_layout slot w results) old
  slot_made old mid made = made ∙ ap (λ xs. after (writes_from (slot_at new_layout slot) xs) old) is

  -- it was, and what comes after it was not
  rest_cut : {T E : Type 0} (old mid new : Disk) (result : Result T E) → mid ≡ after (writes_from (slot_at new_layout slot) sectors) old → IsErr result → Begun (synced ∷ commits new_layout h) mid new → Changes (places new_layout h slot w results) old new result
  rest_cut old mid new result made err begun =
      changes_cut (places new_layout h slot w results) old new result err
      (begun_more (slot_writes new_layout slot w results) (synced ∷ commits new_layout h) old new
      (subst (λ d. Begun (synced ∷ commits new_layout h) d new) (slot_made old mid made) begun))

  all_made : (old mid new : Disk) → mid ≡ after (writes_from (slot_at new_layout slot) sectors) old → new ≡ after (synced ∷ commits new_layout h) mid → new ≡ after (places new_layout h slot w results) old
  all_made old mid new made rest =
      rest ∙ ap (after (synced ∷ commits new_layout h)) (slot_made old mid made)
      ∙ sym (after-append (slot_writes new_layout slot w results) (synced ∷ commits new_layout h) old)

pub returns-in_err-write_slot-clause-changes : goal.returns-in_err-write_slot-clause-changes
returns-in_err-write_slot-clause-changes g c = λ lawful.
    slot_cut c.args.header.now c.args.slot c.args.warrior.now c.args.results.now c.encode.result.sectors c.encode.ensures.value
    _ _ c.from_residual.result c.from_residual.ensures.0 (c.in_err-write_slot.ensures.changes lawful)

pub returns-in_err-sync-clause-changes : goal.returns-in_err-sync-clause-changes
returns-in_err-sync-clause-changes g c = λ lawful.
    let disk = g.D.Device.facts.disk in
    rest_cut c.args.header.now c.args.slot c.args.warrior.now c.args.results.now c.encode.result.sectors c.encode.ensures.value
    _ (disk c.write_slot.new.device) _ c.from_residual-in_err-sync.result (c.in_ok-write_slot.ensures.changes lawful) c.from_residual-in_err-sync.ensures.0
    (begun_front (synced ∷ []) (commits new_layout c.args.header.now) (disk c.write_slot.new.device) (disk c.sync.new.self) (c.in_err-sync.ensures.changes (c.in_ok-write_slot.ensures.served.same_laws.1 lawful)))

pub returns-in_err-commit-clause-changes : goal.returns-in_err-commit-clause-changes
returns-in_err-commit-clause-changes g c = λ lawful.
    let disk = g.D.Device.facts.disk in
    let lawful_mid = c.in_ok-write_slot.ensures.served.same_laws.1 lawful in
    rest_cut c.args.header.now c.args.slot c.args.warrior.now c.args.results.now c.encode.result.sectors c.encode.ensures.value
    _ (disk c.write_slot.new.device) _ c.from_residual-in_err-commit.result (c.in_ok-write_slot.ensures.changes lawful) c.from_residual-in_err-commit.ensures.0
    (inr (subst (λ d. Begun (commits new_layout c.args.header.now) d (disk c.commit.new.device)) (c.in_ok-sync.ensures.changes lawful_mid) (c.in_err-commit.ensures.changes (c.in_ok-sync.ensures.served.same_laws.1 lawful_mid))))

pub returns-clause-changes : goal.returns-clause-changes
returns-clause-changes g c = λ lawful.
    let disk = g.D.Device.facts.disk in
    let lawful_mid = c.in_ok-write_slot.ensures.served.same_laws.1 lawful in
    all_made c.args.header.now c.args.slot c.args.warrior.now c.args.results.now c.encode.result.sectors c.encode.ensures.value
    _ (disk c.write_slot.new.device) _ (c.in_ok-write_slot.ensures.changes lawful)
    (c.in_ok-commit.ensures.changes (c.in_ok-sync.ensures.served.same_laws.1 lawful_mid) ∙ ap (after (commits new_layout c.args.header.now)) (c.in_ok-sync.ensures.changes lawful_mid))
