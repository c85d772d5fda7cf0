-- The warriors of the header's entries, while sectors are written.
use Rattle.std.proofs.Common.{◌≡◌, ℕ, ◌+◌, ◌<◌, ◌≤◌, List, [], ◌∷◌, ◌++◌, Option, Bool, true, false, if◌then◌else◌, sym, ap, subst}
use Rattle.{war_types.specs.declared.settings.RawSettings.RawSettings, koth_hill.specs.{Hill.Member, Step.{is_entry, without, one_older}}, sector_disk.specs.Image.put}
use Rattle.hill_bytes.specs.{declared.header.HeaderEntry.HeaderEntry, Layout.{Layout, IsSlot, SlotIsFree, slot_at, slot_in}}
use Rattle.{hill_images.specs.{Stands.{IsHeld, AllHeld}, Places.kept_entries}, hill_images.proofs.Sectors.{IsOutside, outside_headers, outside_slot, slot-elsewhere}}

abbrev older : Member → Member
older m = record { entry = m.entry; age = m.age + 1; warrior = m.warrior }

-- none of these entries has this sector in its slot
abbrev pub Apart : Layout → ℕ → List HeaderEntry → Type 0
Apart layout n [] = Unit {0}
Apart layout n (e ∷ es) = IsOutside layout n e.slot × Apart layout n es

pub apart_headers : (layout : Layout) (n : ℕ) (es : List HeaderEntry) → n < 2 → Apart layout n es
apart_headers layout n [] low = tt
apart_headers layout n (e ∷ es) low = (outside_headers layout n e.slot low, apart_headers layout n es low)

pub apart_slot : (layout : Layout) (n slot : ℕ) (es : List HeaderEntry) → slot_at layout slot ≤ n → n < slot_at layout slot + (layout.full + 1) → SlotIsFree slot es → Apart layout n es
apart_slot layout n slot [] from to free = tt
apart_slot layout n slot (e ∷ es) from to free = (outside_slot layout n slot e.slot free.0 from to, apart_slot layout n slot es from to free.1)

-- a slot is as it was if its sectors are
pub held_same : {layout : Layout} (s : RawSettings) (image other : ℕ → List ℕ) (e : HeaderEntry) (m : Member) → slot_in layout other e.slot ≡ slot_in layout image e.slot → IsHeld layout s image e m → IsHeld layout s other e m
held_same {layout} s image other e m same held = record {
  entry = held.entry;
  age = held.age;
  slot = subst (λ sectors. IsSlot layout s sectors m.warrior) (sym same) held.slot;
}

-- a write elsewhere leaves them
pub held_elsewhere : (layout : Layout) (s : RawSettings) (image : ℕ → List ℕ) (n : ℕ) (content : List ℕ) (es : List HeaderEntry) (ms : List Member) → Apart layout n es → AllHeld layout s image es ms → AllHeld layout s (put n content image) es ms
held_elsewhere layout s image n content [] [] apart held = tt
held_elsewhere layout s image n content [] (m ∷ ms) apart held = held
held_elsewhere layout s image n content (e ∷ es) [] apart held = held
held_elsewhere layout s image n content (e ∷ es) (m ∷ ms) apart held = (
  held_same s image (put n content image) e m (slot-elsewhere layout image n content e.slot apart.0) held.0,
  held_elsewhere layout s image n content es ms apart.1 held.1,
)

-- one stays or falls, before others
held_choose : (layout : Layout) (s : RawSettings) (image : ℕ → List ℕ) (falls : Bool) (e : HeaderEntry) (m : Member) (es : List HeaderEntry) (ms : List Member) → AllHeld layout s image es (one_older ms) → IsHeld layout s image e (older m) → AllHeld layout s image (if falls then es else e ∷ es) (one_older (if falls then ms else m ∷ ms))
held_choose layout s image true e m es ms others this = others
held_choose layout s image false e m es ms others this = (this, others)

-- one of them falls, and the others grow older
pub held_kept : (layout : Layout) (s : RawSettings) (image : ℕ → List ℕ) (fallen : Option ℕ) (es : List HeaderEntry) (ms : List Member) → AllHeld layout s image es ms → AllHeld layout s image (kept_entries fallen es) (one_older (without fallen ms))
held_kept layout s image fallen [] [] held = tt
held_kept layout s image fallen [] (m ∷ ms) held = absurd held
held_kept layout s image fallen (e ∷ es) [] held = absurd held
held_kept layout s image fallen (e ∷ es) (m ∷ ms) held =
    subst (λ b. AllHeld layout s image (kept_entries fallen (e ∷ es)) (one_older (if b then without fallen ms else m ∷ without fallen ms)))
    (ap (λ n. is_entry n fallen) (sym held.0.entry))
    (held_choose layout s image (is_entry e.entry fallen) (record { entry = e.entry; slot = e.slot; age = e.age + 1 }) m (kept_entries fallen es) (without fallen ms)
    (held_kept layout s image fallen es ms held.1)
    (record { entry = held.0.entry; age = ap (λ n. n + 1) held.0.age; slot = held.0.slot }))

-- one more
pub held_more : (layout : Layout) (s : RawSettings) (image : ℕ → List ℕ) (es : List HeaderEntry) (ms : List Member) (e : HeaderEntry) (m : Member) → AllHeld layout s image es ms → IsHeld layout s image e m → AllHeld layout s image (es ++ e ∷ []) (ms ++ m ∷ [])
held_more layout s image [] [] e m held more = (more, tt)
held_more layout s image [] (x ∷ ms) e m held more = absurd held
held_more layout s image (x ∷ es) [] e m held more = absurd held
held_more layout s image (x ∷ es) (y ∷ ms) e m held more = (held.0, held_more layout s image es ms e m held.1 more)
