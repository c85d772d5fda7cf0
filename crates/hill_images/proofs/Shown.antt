-- What an image reads as is a hill.
use Rattle.std.proofs.{Common.{◌≡◌, ℕ, ◌-◌, ◌<◌, ◌≤◌, List, [], ◌∷◌, length, All, sym, subst, arith}, lemmas.List.Elements.{All-nil, All-cons, All-head, All-tail}}
use Rattle.{war_types.specs.{declared.settings.RawSettings.RawSettings, Settings.AreSettings}, koth_hill.specs.{Hill.{Member, IsHill, MayStand, RiseFrom}, Kept.{Kept, hill_in}}}
use Rattle.hill_bytes.specs.{declared.header.HeaderEntry.HeaderEntry, Layout.{Layout, HeaderParts, IsHeaderParts, IsEntry, EntriesRise}}
use Rattle.{hill_images.specs.Stands.{AllHeld, ShowsIn, ReadsIn}, hill_images.proofs.Nexts.{agree_length, agree_held}}

held_rising : (layout : Layout) (s : RawSettings) (image : ℕ → List ℕ) (before : ℕ) (es : List HeaderEntry) (ms : List Member) → AllHeld layout s image es ms → EntriesRise before es → RiseFrom before ms
held_rising layout s image before [] [] held rise = tt
held_rising layout s image before [] (m ∷ ms) held rise = absurd held
held_rising layout s image before (e ∷ es) [] held rise = absurd held
held_rising layout s image before (e ∷ es) (m ∷ ms) held rise = (
  subst (λ n. before < n) (sym held.0.entry) rise.0,
  subst (λ n. RiseFrom n ms) (sym held.0.entry) (held_rising layout s image e.entry es ms held.1 rise.1),
)

held_stand : (layout : Layout) (s : RawSettings) (image : ℕ → List ℕ) (capacity counter : ℕ) (es : List HeaderEntry) (ms : List Member) → AllHeld layout s image es ms → All (IsEntry capacity counter) es → All (MayStand s counter) ms
held_stand layout s image capacity counter [] [] held are = All-nil (MayStand s counter)
held_stand layout s image capacity counter [] (m ∷ ms) held are = absurd held
held_stand layout s image capacity counter (e ∷ es) [] held are = absurd held
held_stand layout s image capacity counter (e ∷ es) (m ∷ ms) held are =
    let this : IsEntry capacity counter e = All-head (IsEntry capacity counter) e es are in
    let entry : m.entry ≡ e.entry = held.0.entry in
    let age : m.age ≡ e.age = held.0.age in
    let low : e.entry ≤ counter = this.entry in
    let young : e.age ≤ counter - e.entry = this.age in
    All-cons (MayStand s counter) m ms (record { entry = omega (arith, entry, low); age = omega (arith, entry, age, young); fits = held.0.slot.fits })
    (held_stand layout s image capacity counter es ms held.1 (All-tail (IsEntry capacity counter) e es are))

pub shows_hill : {layout : Layout} (image : ℕ → List ℕ) (h : HeaderParts) (hill : Kept) → ShowsIn layout image h hill → IsHill (hill_in hill)
shows_hill {layout} image h hill is = record {
  settings = subst AreSettings is.settings header.settings;
  room = subst (λ n. n ≤ hill.settings.capacity) long (subst (λ (s : RawSettings). length h.entries ≤ s.capacity) is.settings header.few);
  rising = held_rising layout hill.settings image 0 h.entries hill.members is.members header.rising;
  members = subst (λ n. All (MayStand hill.settings n) hill.members) is.counter (held_stand layout hill.settings image h.settings.capacity h.counter h.entries hill.members is.members header.entries);
}
  where
    header : IsHeaderParts h
    header = is.newest.here.header

    long : length h.entries ≡ length hill.members
    long = agree_length h.entries hill.members (agree_held layout hill.settings image h.entries hill.members is.members)

pub reads_hill : {layout : Layout} (size : ℕ) (image : ℕ → List ℕ) (hill : Kept) → ReadsIn layout size image hill → IsHill (hill_in hill)
reads_hill size image hill is = shows_hill image is.header hill is.shows
