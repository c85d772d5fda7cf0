-- What opening decides of a device that may stand for either of two hills.
use Rattle.std.proofs.Common.{◌≡◌, false, ◌⊎◌, inl, inr, ℕ, ◌<◌, ◌≤◌, List, [], ◌∷◌, ◌++◌, Option, Some, None, refl, sym, ap, subst, ◌∙◌, arith}
use Rattle.{war_types.specs.declared.settings.RawSettings.RawSettings, koth_hill.specs.Kept.{Kept, fought, new_kept}, sector_disk.specs.{Facts.DeviceFacts, Disk.current, Image.Images}}
use Rattle.{sector_disk.specs.Served.IsKept, sector_disk.proofs.Images.images_read, hill_bytes.specs.Layout.{HeaderParts, Layout, new_layout, sectors_for, sectors_in}}
use Rattle.hill_images.specs.{declared.refusal.Refusal.Refusal, Stands.{IsReady, ReadsIn, Reads, ShowsIn, Stands}, Opening.{IsFirst, IsNotOpened, RefusesIn}, Named.IsSound}
use Rattle.{hill_images.proofs.{Firsts.{first_fits, first_hill}, Newest.{one_newest, reads_once}}, hill_store.specs.{Earned.earned, Seen.Seen, Opened.{IsCreated, IsOpened}}}
use Rattle.{hill_store.specs.Holding.{StandsFor, StandsForIn, Holds, IsHolding, IsDecided, IsUndecided}, hill_store.proofs.Living.begun_holds}

-- a store on the first header of a hill is sound
pub first_sound : {D : Type 0} (facts : DeviceFacts D) (old new : D) (s : RawSettings) (h : HeaderParts) (hill : Kept) (arena : RawSettings) → IsFirst facts old s new h → hill ≡ new_kept s 0 → arena ≡ s → sectors_for s.capacity ≤ facts.size old → IsKept facts old new → IsSound facts new h hill arena false
first_sound facts old new s h hill arena first is arena_is room kept =
    subst (λ k. IsSound facts new h k arena false) (sym is)
    (subst (λ x. IsSound facts new x (new_kept s 0) arena false) (sym first.first) (record {
      room = subst (λ n. sectors_for s.capacity ≤ n) (sym kept.same_size) room;
      arena_of = arena_is;
      header = first_fits s first.settings;
      kept = record { hill = first_hill s first.settings; each = refl; rows = tt };
      named = record { settings = refl; counter = refl; entries = tt };
      ready = λ lawful. λ is_open. subst (λ x. IsReady new_layout (facts.disk new) x (new_kept s 0)) first.first (first.written.ready (kept.same_laws.0 lawful));
    }))

-- a hill that was created holds no sources
pub created_holds : {D : Type 0} (facts : DeviceFacts D) (old : D) (s : RawSettings) (store : Seen D) → IsKept facts old store.device → IsCreated facts old s store → facts.lawful old → IsHolding facts s [] store
created_holds facts old s store kept created lawful = record {
  lawful = kept.same_laws.1 lawful;
  open_now = created.open_now;
  hill = created.hill;
  holds = created.stands lawful;
}

opened_holding : {D : Type 0} (facts : DeviceFacts D) (old : D) (s : RawSettings) (found : List (List ℕ)) (store : Seen D) → IsKept facts old store.device → IsOpened facts old store → facts.lawful old → Stands (facts.size old) (current (facts.disk old)) (earned s found) → IsHolding facts s found store
opened_holding facts old s found store kept opened lawful stands = record {
  lawful = kept.same_laws.1 lawful;
  open_now = opened.open_now;
  hill = same;
  holds = subst (λ k. Images (facts.disk store.device) (λ image. Reads (facts.size store.device) image k)) same (opened.reads lawful);
}
  where
    same : store.hill ≡ fought (earned s found)
    same = reads_once (facts.size old) (current (facts.disk old)) store.hill (fought (earned s found)) (opened.reads_as lawful) stands

-- the hill that was opened
pub decided : {D : Type 0} (facts : DeviceFacts D) (old : D) (s : RawSettings) (before : List (List ℕ)) (more : Option (List ℕ)) (store : Seen D) → IsKept facts old store.device → IsOpened facts old store → facts.lawful old → Holds (facts.size old) (facts.disk old) s before more → IsDecided facts s before more store
decided facts old s before None store kept opened lawful holds = record {
  found = before;
  are = refl;
  holding = opened_holding facts old s before store kept opened lawful
      (images_read (facts.disk old) (StandsFor (facts.size old) s before None) holds);
}
decided facts old s before (Some source) store kept opened lawful holds = elim (images_read (facts.disk old) (StandsFor (facts.size old) s before (Some source)) holds) [
  | inl stands ↦ record { found = before; are = inl refl; holding = opened_holding facts old s before store kept opened lawful stands }
  | inr stands ↦ record { found = before ++ source ∷ []; are = inr refl; holding = opened_holding facts old s (before ++ source ∷ []) store kept opened lawful stands }
]

-- a device that reads as a hill is refused for lack of memory or for a failure alone
reason_of : (layout : Layout) (size : ℕ) (image : ℕ → List ℕ) (hill : Kept) (why : Refusal) → ReadsIn layout size image hill → RefusesIn layout size image why → (why ≡ Refusal.Disk) ⊎ (why ≡ Refusal.Memory)
reason_of layout size image hill Refusal.Disk stands reason = inl refl
reason_of layout size image hill Refusal.Memory stands reason = inr refl
reason_of layout size image hill Refusal.Occupied stands reason = absurd reason
reason_of layout size image hill Refusal.NotAHill stands reason = absurd (reason stands.header stands.shows.newest.here)
reason_of layout size image hill Refusal.Damaged stands reason =
    absurd (reason.3 hill (subst (λ h. ShowsIn layout image h hill) (one_newest image stands.header reason.0 stands.shows.newest reason.1) stands.shows))
reason_of layout size image hill Refusal.TooSmall stands (inl few) = let room : sectors_in layout hill.settings.capacity ≤ size = stands.room in absurd (omega (arith, few, room))
reason_of layout size image hill Refusal.TooSmall stands (inr few) =
    let room : sectors_in layout hill.settings.capacity ≤ size = stands.room in
    let short : size < sectors_in layout hill.settings.capacity =
    subst (λ (t : RawSettings). size < sectors_in layout t.capacity) (ap (λ (h : HeaderParts). h.settings) (sym (one_newest image stands.header few.0 stands.shows.newest few.1)) ∙ stands.shows.settings) few.2 in
    absurd (omega (arith, short, room))

pub any_reason : (layout : Layout) (size : ℕ) (image : ℕ → List ℕ) (s : RawSettings) (before : List (List ℕ)) (more : Option (List ℕ)) (why : Refusal) → StandsForIn layout size s before more image → RefusesIn layout size image why → (why ≡ Refusal.Disk) ⊎ (why ≡ Refusal.Memory)
any_reason layout size image s before None why stands reason = reason_of layout size image (fought (earned s before)) why stands reason
any_reason layout size image s before (Some source) why (inl stands) reason = reason_of layout size image (fought (earned s before)) why stands reason
any_reason layout size image s before (Some source) why (inr stands) reason = reason_of layout size image (fought (earned s (before ++ source ∷ []))) why stands reason

-- no hill was opened
pub undecided : {D : Type 0} (facts : DeviceFacts D) (old : D) (s : RawSettings) (before : List (List ℕ)) (more : Option (List ℕ)) (new : D) (why : Refusal) → IsKept facts old new → IsNotOpened facts old new why → facts.lawful old → Holds (facts.size old) (facts.disk old) s before more → IsUndecided facts s before more new why
undecided facts old s before more new why kept refused lawful holds = record {
  cause = any_reason new_layout (facts.size old) (current (facts.disk old)) s before more why reads (refused.reason lawful);
  holds = subst (λ n. Holds n (facts.disk new) s before more) (sym kept.same_size) (begun_holds new_layout (facts.size old) s before more (facts.disk old) (facts.disk new) holds (refused.kept lawful));
}
  where
    reads : StandsFor (facts.size old) s before more (current (facts.disk old))
    reads = images_read (facts.disk old) (StandsFor (facts.size old) s before more) holds
