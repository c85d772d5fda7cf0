-- The exits of an opening.
use Rattle.{std.proofs.Common.{◌≡◌, inr, ℕ, ◌<◌, ◌≤◌, List, Result, Ok, Err, IfOk, IfErr, sym, ap, subst, ◌∙◌}, war_types.specs.declared.settings.RawSettings.RawSettings}
use Rattle.{koth_hill.specs.Kept.Kept, sector_disk.specs.{Facts.DeviceFacts, Disk.{current, synced, IsSettled}, Served.IsKept}, sector_disk.proofs.Images.settled-synced}
use Rattle.{hill_bytes.specs.Layout.{Layout, HeaderParts, sectors_in}, hill_images.specs.{declared.refusal.Refusal.Refusal, Stands.{IsNewestIn, AllHeld, ShowsIn, results_read}}}
use Rattle.hill_images.specs.{Opening.{IsRecovered, IsNotOpenedIn, RefusesIn}, Reading.{refusal_of, HillNotRead, HillRead, HillRefused, IsHillFound}, declared.reading.Unread.Unread}
use Rattle.hill_images.proofs.WarriorsRead.{rose_more}

pub if_ok_map : {T E : Type 0} (P Q : T → Type 0) (result : Result T E) → ((x : T) → P x → Q x) → IfOk result P → IfOk result Q
if_ok_map P Q (Ok x) map is = map x is
if_ok_map P Q (Err e) map is = tt

pub if_err_map : {T E : Type 0} (P Q : E → Type 0) (result : Result T E) → ((e : E) → P e → Q e) → IfErr result P → IfErr result Q
if_err_map P Q (Ok x) map is = tt
if_err_map P Q (Err e) map is = map e is

shown : {D : Type 0} {layout : Layout} (facts : DeviceFacts D) (mid : D) (image : ℕ → List ℕ) (h : HeaderParts) (hill : Kept) → current (facts.disk mid) ≡ image → facts.lawful mid → IsNewestIn layout image h → HillRead layout facts mid h hill → ShowsIn layout image h hill
shown {layout = layout} facts mid image h hill same lawful newest read = record {
  newest = newest;
  settings = read.named.settings;
  counter = read.named.counter;
  members = subst (λ i. AllHeld layout hill.settings i h.entries hill.members) same (read.held lawful);
  results = subst (λ i. hill.results ≡ results_read layout hill.settings.rounds i h.entries) same (read.results lawful);
}

-- its warriors were not read
pub not_read : {D : Type 0} (layout : Layout) (facts : DeviceFacts D) (old new : D) (h : HeaderParts) (why : Unread) → sectors_in layout h.settings.capacity ≤ facts.size old → HillNotRead layout facts old new h why → HillRefused layout facts old new h (refusal_of why)
not_read layout facts old new h Unread.Disk room failed = failed
not_read layout facts old new h Unread.Memory room failed = tt
not_read layout facts old new h Unread.Damaged room failed = (room, failed)

-- the hill of the newest header was recovered
pub recovered : {D : Type 0} {layout : Layout} (facts : DeviceFacts D) (old mid new : D) (given h : HeaderParts) (hill : Kept) (arena : RawSettings) → IsKept facts old mid → IsKept facts mid new → (facts.lawful old → facts.disk mid ≡ synced (facts.disk old)) → (facts.lawful mid → facts.disk new ≡ facts.disk mid) → (facts.lawful old → IsNewestIn layout (current (facts.disk old)) given) → IsHillFound layout facts mid given h hill arena → IsRecovered layout facts old new h hill arena
recovered {layout = layout} facts old mid new given h hill arena front back settled same newest found = record {
  sound = record {
    room = subst (λ n. sectors_in layout hill.settings.capacity ≤ n) (sym back.same_size) room_mid;
    arena_of = found.arena_of ∙ found.read.named.settings;
    header = found.header;
    kept = found.read.kept;
    named = found.read.named;
    ready = λ lawful. λ is_open. record {
      settled = subst (λ d. IsSettled d) (sym (disk_new (old_lawful lawful))) (settled-synced (facts.disk old));
      shows = subst (λ d. ShowsIn layout (current d) h hill) (sym (disk_new (old_lawful lawful))) (shows_old (old_lawful lawful));
    };
  };
  shows = shows_old;
  room = subst (λ n. sectors_in layout hill.settings.capacity ≤ n) front.same_size room_mid;
  synced_now = disk_new;
}
  where
    room_mid : sectors_in layout hill.settings.capacity ≤ facts.size mid
    room_mid = subst (λ s. sectors_in layout s.capacity ≤ facts.size mid) found.read.named.settings found.room

    old_lawful : facts.lawful new → facts.lawful old
    old_lawful lawful = front.same_laws.0 (back.same_laws.0 lawful)

    disk_new : facts.lawful old → facts.disk new ≡ synced (facts.disk old)
    disk_new lawful = same (front.same_laws.1 lawful) ∙ settled lawful

    shows_old : facts.lawful old → ShowsIn layout (current (facts.disk old)) h hill
    shows_old lawful = shown facts mid (current (facts.disk old)) h hill (ap current (settled lawful)) (front.same_laws.1 lawful)
        (subst (λ x. IsNewestIn layout (current (facts.disk old)) x) (sym found.same) (newest lawful)) found.read

-- why the hill of the newest header is not to be had
pub reason_of : {D : Type 0} {layout : Layout} (facts : DeviceFacts D) (old mid new : D) (h : HeaderParts) (why : Refusal) → facts.size mid ≡ facts.size old → (facts.lawful old → facts.lawful mid) → (facts.lawful old → current (facts.disk mid) ≡ current (facts.disk old)) → (facts.lawful old → IsNewestIn layout (current (facts.disk old)) h) → HillRefused layout facts mid new h why → facts.lawful old → RefusesIn layout (facts.size old) (current (facts.disk old)) why
reason_of {layout = layout} facts old mid new h Refusal.TooSmall size laws same newest few lawful = inr (h, newest lawful, subst (λ n. n < sectors_in layout h.settings.capacity) size few)
reason_of facts old mid new h Refusal.Disk size laws same newest rose lawful = tt
reason_of facts old mid new h Refusal.Memory size laws same newest any lawful = tt
reason_of facts old mid new h Refusal.Occupied size laws same newest never lawful = never
reason_of facts old mid new h Refusal.NotAHill size laws same newest never lawful = absurd never
reason_of {layout = layout} facts old mid new h Refusal.Damaged size laws same newest damaged lawful = (
  h,
  newest lawful,
  subst (λ n. sectors_in layout h.settings.capacity ≤ n) size damaged.0,
  (λ hill. λ shows. damaged.1 (laws lawful) hill.members
      (subst (λ s. AllHeld layout s (current (facts.disk mid)) h.entries hill.members) (sym shows.settings)
      (subst (λ image. AllHeld layout hill.settings image h.entries hill.members) (sym (same lawful)) shows.members))),
)

-- it was not
pub not_recovered : {D : Type 0} {layout : Layout} (facts : DeviceFacts D) (old mid new : D) (h : HeaderParts) (why : Refusal) → IsKept facts old mid → IsKept facts mid new → (facts.lawful old → facts.disk mid ≡ synced (facts.disk old)) → (facts.lawful mid → facts.disk new ≡ facts.disk mid) → (facts.lawful old → IsNewestIn layout (current (facts.disk old)) h) → HillRefused layout facts mid new h why → IsNotOpenedIn layout facts old new why
not_recovered {layout = layout} facts old mid new h why front back settled same newest refused = record {
  cause = λ is. rose_more facts old mid new front.later back.later (subst (λ x. HillRefused layout facts mid new h x) is refused);
  reason = reason_of facts old mid new h why front.same_size front.same_laws.1 (λ lawful. ap current (settled lawful)) newest refused;
  kept = λ lawful. inr (same (front.same_laws.1 lawful) ∙ settled lawful);
}
