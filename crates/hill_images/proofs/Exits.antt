-- What a device, its header and its hill are at each exit of a submission.
use Rattle.{std.proofs.Common.{◌≡◌, ◌⊎◌, ℕ, ◌-◌, ◌^◌, ◌<◌, ◌≤◌, ◌↔◌, Bool, true, false, length, sym, ap, ◌∙◌, subst, arith}, war_types.specs.declared.settings.RawSettings.RawSettings}
use Rattle.{war_types.specs.Warrior.{WarriorParts, Fits}, koth_hill.specs.{declared.verdict.Verdict.Verdict, Hill.IsHill, Step.{falling_by, stays_by, after_stay}}}
use Rattle.{koth_hill.specs.Kept.{Kept, hill_in, known, verdict_kept, kept_stay, kept_fall, step_kept, IsKept}, koth_hill.proofs.{Admitted.IsHill-after_stay, RowsKept.{IsKept-stay, IsKept-fall}}}
use Rattle.{sector_disk.specs.{Facts.DeviceFacts, Image.Images, Changes.{after, Begun}}, hill_bytes.specs.Layout.{HeaderParts, IsHeaderParts, SlotIsFree, IsTitled, Layout, sectors_in}}
use Rattle.hill_images.specs.{Stands.ReadsIn, Named.IsSoundIn, Places.{header_placed, header_passed, commits, places}}
use Rattle.hill_images.proofs.Submitted.{verdict_is, step_stays, step_falls, named_placed, named_passed, placed_fits, passed_fits, hill_passed, results_of, ready_reads, MayPlace, ready_placed}
use Rattle.hill_images.proofs.Submitted.{cut_placed, ready_passed, cut_passed}

-- a sound store that may take submissions reads as its hill
pub sound_reads : {D : Type 0} {layout : Layout} (facts : DeviceFacts D) (device : D) (h : HeaderParts) (hill : Kept) (arena : RawSettings) (reopen : Bool) → IsSoundIn layout facts device h hill arena reopen → reopen ≡ false → facts.lawful device → Images (facts.disk device) (λ image. ReadsIn layout (facts.size device) image hill)
sound_reads {layout = layout} facts device h hill arena reopen sound is_open lawful =
    ready_reads (facts.size device) (facts.disk device) h hill sound.room (sound.ready lawful is_open)

-- what is known of a warrior that stays, before the first call of the device
pub record MayAdmit {D : Type 0} (layout : Layout) (facts : DeviceFacts D) (device : D) (h : HeaderParts) (hill : Kept) (arena : RawSettings) (reopen : Bool) (w : WarriorParts) (judged : Verdict) (slot : ℕ) : Type 0 where
  pub sound : IsSoundIn layout facts device h hill arena reopen
  pub is_open : reopen ≡ false
  pub more : h.generation < 2 ^ 64 - 1
  pub fits : Fits hill.settings w
  pub judged_is : judged ≡ verdict_kept hill w
  pub stays_is : judged.stays ≡ true
  pub free : SlotIsFree slot h.entries
  pub within : slot ≤ length h.entries

stays_so : (hill : Kept) (w : WarriorParts) (judged : Verdict) (b : Bool) → judged ≡ verdict_kept hill w → judged.stays ≡ b → stays_by (known hill w) (hill_in hill) w ≡ b
stays_so hill w judged b is found = sym (verdict_is hill w).0 ∙ ap (λ (v : Verdict). v.stays) (sym is) ∙ found

falls_so : (hill : Kept) (w : WarriorParts) (judged : Verdict) → judged ≡ verdict_kept hill w → falling_by (known hill w) (hill_in hill) w ≡ judged.falls
falls_so hill w judged is = sym (verdict_is hill w).1 ∙ ap (λ (v : Verdict). v.falls) (sym is)

pub admit_step : (hill : Kept) (w : WarriorParts) (judged : Verdict) → judged ≡ verdict_kept hill w → judged.stays ≡ true → step_kept hill w ≡ kept_stay hill w judged.falls
admit_step hill w judged is stays_is = step_stays hill w (stays_so hill w judged true is stays_is) ∙ ap (kept_stay hill w) (falls_so hill w judged is)

pub pass_step : (hill : Kept) (w : WarriorParts) (judged : Verdict) → judged ≡ verdict_kept hill w → judged.stays ≡ false → step_kept hill w ≡ kept_fall hill
pass_step hill w judged is falls_is = step_falls hill w (stays_so hill w judged false is falls_is)

admit_kept : (hill : Kept) (w : WarriorParts) (judged : Verdict) → judged ≡ verdict_kept hill w → judged.stays ≡ true → IsKept hill → Fits hill.settings w → IsKept (kept_stay hill w judged.falls)
admit_kept hill w judged is stays_is kept fits =
    IsKept-stay hill w judged.falls kept
    (subst (λ fallen. IsHill (after_stay (hill_in hill) w fallen)) (falls_so hill w judged is) (IsHill-after_stay (known hill w) (hill_in hill) w kept.hill fits (stays_so hill w judged true is stays_is)))

slot_within : {D : Type 0} {layout : Layout} (facts : DeviceFacts D) (device : D) (h : HeaderParts) (hill : Kept) (arena : RawSettings) (reopen : Bool) (w : WarriorParts) (judged : Verdict) (slot : ℕ) → MayAdmit layout facts device h hill arena reopen w judged slot → slot ≤ h.settings.capacity
slot_within {layout = layout} facts device h hill arena reopen w judged slot may =
    let low : slot ≤ length h.entries = may.within in
    let few : length h.entries ≤ h.settings.capacity = may.sound.header.few in
    omega arith

pub admit_header : {D : Type 0} {layout : Layout} (facts : DeviceFacts D) (device : D) (h : HeaderParts) (hill : Kept) (arena : RawSettings) (reopen : Bool) (w : WarriorParts) (judged : Verdict) (slot : ℕ) → MayAdmit layout facts device h hill arena reopen w judged slot → IsHeaderParts (header_placed h judged.falls slot)
admit_header {layout = layout} facts device h hill arena reopen w judged slot may =
    placed_fits h (hill_in hill) w judged.falls slot may.sound.header may.sound.named (admit_kept hill w judged may.judged_is may.stays_is may.sound.kept may.fits).hill may.more may.free
    (slot_within facts device h hill arena reopen w judged slot may)

may_place : {D : Type 0} {layout : Layout} (facts : DeviceFacts D) (device : D) (h : HeaderParts) (hill : Kept) (arena : RawSettings) (reopen : Bool) (w : WarriorParts) (judged : Verdict) (slot : ℕ) → MayAdmit layout facts device h hill arena reopen w judged slot → IsTitled w → facts.lawful device → MayPlace layout (facts.disk device) h hill w judged.falls slot
may_place {layout = layout} facts device h hill arena reopen w judged slot may titled lawful = record {
  ready = may.sound.ready lawful may.is_open;
  free = may.free;
  fits = may.fits;
  titled = titled;
  kept = may.sound.kept;
  before = may.sound.header;
  header = admit_header facts device h hill arena reopen w judged slot may;
}

-- the five calls were made
pub admit_sound : {D : Type 0} {layout : Layout} (facts : DeviceFacts D) (device new : D) (h : HeaderParts) (hill : Kept) (arena : RawSettings) (reopen : Bool) (w : WarriorParts) (judged : Verdict) (slot : ℕ) → MayAdmit layout facts device h hill arena reopen w judged slot → IsTitled w → facts.size new ≡ facts.size device → (facts.lawful new → facts.lawful device) → (facts.lawful device → facts.disk new ≡ after (places layout (header_placed h judged.falls slot) slot w (results_of h hill w)) (facts.disk device)) → IsSoundIn layout facts new (header_placed h judged.falls slot) (step_kept hill w) arena reopen
admit_sound {layout = layout} facts device new h hill arena reopen w judged slot may titled same_size same_laws made =
    subst (λ next. IsSoundIn layout facts new (header_placed h judged.falls slot) next arena reopen) (sym (admit_step hill w judged may.judged_is may.stays_is)) (record {
      room = subst (λ n. sectors_in layout hill.settings.capacity ≤ n) (sym same_size) may.sound.room;
      arena_of = may.sound.arena_of;
      header = admit_header facts device h hill arena reopen w judged slot may;
      kept = admit_kept hill w judged may.judged_is may.stays_is may.sound.kept may.fits;
      named = named_placed h (hill_in hill) w judged.falls slot may.sound.named;
      ready = λ lawful. λ is_open. ready_placed (facts.disk device) (facts.disk new) h hill w judged.falls slot (may_place facts device h hill arena reopen w judged slot may titled (same_laws lawful)) (made (same_laws lawful));
    })

-- they were stopped
pub admit_cut : {D : Type 0} {layout : Layout} (facts : DeviceFacts D) (device new : D) (h : HeaderParts) (hill : Kept) (arena : RawSettings) (reopen : Bool) (w : WarriorParts) (judged : Verdict) (slot : ℕ) → MayAdmit layout facts device h hill arena reopen w judged slot → IsTitled w → facts.size new ≡ facts.size device → (facts.lawful device → Begun (places layout (header_placed h judged.falls slot) slot w (results_of h hill w)) (facts.disk device) (facts.disk new)) → facts.lawful device → Images (facts.disk new) (λ image. ReadsIn layout (facts.size new) image hill ⊎ ReadsIn layout (facts.size new) image (step_kept hill w))
admit_cut {layout = layout} facts device new h hill arena reopen w judged slot may titled same_size begun lawful =
    subst (λ next. Images (facts.disk new) (λ image. ReadsIn layout (facts.size new) image hill ⊎ ReadsIn layout (facts.size new) image next)) (sym (admit_step hill w judged may.judged_is may.stays_is))
    (cut_placed (facts.size new) (facts.disk device) (facts.disk new) h hill w judged.falls slot (subst (λ n. sectors_in layout hill.settings.capacity ≤ n) (sym same_size) may.sound.room)
    (may_place facts device h hill arena reopen w judged slot may titled lawful) (begun lawful))

-- a warrior that falls
pub record MayPass {D : Type 0} (layout : Layout) (facts : DeviceFacts D) (device : D) (h : HeaderParts) (hill : Kept) (arena : RawSettings) (reopen : Bool) : Type 0 where
  pub sound : IsSoundIn layout facts device h hill arena reopen
  pub is_open : reopen ≡ false
  pub more : h.generation < 2 ^ 64 - 1

pub pass_header : {D : Type 0} {layout : Layout} (facts : DeviceFacts D) (device : D) (h : HeaderParts) (hill : Kept) (arena : RawSettings) (reopen : Bool) → MayPass layout facts device h hill arena reopen → IsHeaderParts (header_passed h)
pass_header {layout = layout} facts device h hill arena reopen may = passed_fits h (hill_in hill) may.sound.header may.sound.named may.sound.kept.hill may.more

pub pass_sound : {D : Type 0} {layout : Layout} (facts : DeviceFacts D) (device new : D) (h : HeaderParts) (hill : Kept) (arena : RawSettings) (reopen : Bool) → MayPass layout facts device h hill arena reopen → facts.size new ≡ facts.size device → (facts.lawful new → facts.lawful device) → (facts.lawful device → facts.disk new ≡ after (commits layout (header_passed h)) (facts.disk device)) → IsSoundIn layout facts new (header_passed h) (kept_fall hill) arena reopen
pass_sound {layout = layout} facts device new h hill arena reopen may same_size same_laws made = record {
  room = subst (λ n. sectors_in layout hill.settings.capacity ≤ n) (sym same_size) may.sound.room;
  arena_of = may.sound.arena_of;
  header = pass_header facts device h hill arena reopen may;
  kept = IsKept-fall hill may.sound.kept (hill_passed (hill_in hill) may.sound.kept.hill);
  named = named_passed h (hill_in hill) may.sound.named;
  ready = λ lawful. λ is_open. ready_passed (facts.disk device) (facts.disk new) h hill (may.sound.ready (same_laws lawful) is_open) (pass_header facts device h hill arena reopen may) (made (same_laws lawful));
}

pub pass_cut : {D : Type 0} {layout : Layout} (facts : DeviceFacts D) (device new : D) (h : HeaderParts) (hill : Kept) (arena : RawSettings) (reopen : Bool) → MayPass layout facts device h hill arena reopen → facts.size new ≡ facts.size device → (facts.lawful device → Begun (commits layout (header_passed h)) (facts.disk device) (facts.disk new)) → facts.lawful device → Images (facts.disk new) (λ image. ReadsIn layout (facts.size new) image hill ⊎ ReadsIn layout (facts.size new) image (kept_fall hill))
pass_cut {layout = layout} facts device new h hill arena reopen may same_size begun lawful =
    cut_passed (facts.size new) (facts.disk device) (facts.disk new) h hill (subst (λ n. sectors_in layout hill.settings.capacity ≤ n) (sym same_size) may.sound.room)
    (may.sound.ready lawful may.is_open) (pass_header facts device h hill arena reopen may) (begun lawful)

pub admit_reads : {D : Type 0} {layout : Layout} (facts : DeviceFacts D) (device new : D) (h : HeaderParts) (hill : Kept) (arena : RawSettings) (reopen : Bool) (w : WarriorParts) (judged : Verdict) (slot : ℕ) → MayAdmit layout facts device h hill arena reopen w judged slot → IsTitled w → facts.size new ≡ facts.size device → facts.lawful new ↔ facts.lawful device → (facts.lawful device → facts.disk new ≡ after (places layout (header_placed h judged.falls slot) slot w (results_of h hill w)) (facts.disk device)) → facts.lawful device → Images (facts.disk new) (λ image. ReadsIn layout (facts.size new) image (step_kept hill w))
admit_reads {layout = layout} facts device new h hill arena reopen w judged slot may titled same_size same_laws made lawful =
    sound_reads facts new (header_placed h judged.falls slot) (step_kept hill w) arena reopen
    (admit_sound facts device new h hill arena reopen w judged slot may titled same_size same_laws.0 made) may.is_open (same_laws.1 lawful)

pub pass_reads : {D : Type 0} {layout : Layout} (facts : DeviceFacts D) (device new : D) (h : HeaderParts) (hill : Kept) (arena : RawSettings) (reopen : Bool) → MayPass layout facts device h hill arena reopen → facts.size new ≡ facts.size device → facts.lawful new ↔ facts.lawful device → (facts.lawful device → facts.disk new ≡ after (commits layout (header_passed h)) (facts.disk device)) → facts.lawful device → Images (facts.disk new) (λ image. ReadsIn layout (facts.size new) image (kept_fall hill))
pass_reads {layout = layout} facts device new h hill arena reopen may same_size same_laws made lawful =
    sound_reads facts new (header_passed h) (kept_fall hill) arena reopen
    (pass_sound facts device new h hill arena reopen may same_size same_laws.0 made) may.is_open (same_laws.1 lawful)
