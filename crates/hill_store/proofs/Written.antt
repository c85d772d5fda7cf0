-- What is written of a warrior that stays: for `Store::admit`.
use Rattle.std.proofs.{Common.{◌≡◌, ℕ, ◌-◌, ◌^◌, ◌<◌, ◌≤◌, Bool, true, false, List, length, sym, ap, ap₂, subst, ◌∙◌}, lemmas.List.length-map}
use Rattle.{war_types.specs.{declared.settings.RawSettings.RawSettings, Warrior.{WarriorParts, Fits}}, koth_match.specs.{Match.match_of, declared.bout.Bout.Bout}}
use Rattle.{koth_hill.specs.{Hill.Member, declared.verdict.Verdict.Verdict, Kept.{Kept, verdict_kept}}, sector_disk.specs.Facts.DeviceFacts, hill_bytes.specs.declared.header.HeaderEntry.HeaderEntry}
use Rattle.{hill_bytes.specs.{declared.wins.Wins.Wins, Layout.{HeaderParts, SlotIsFree, new_layout}}, hill_images.specs.{Named.{Agree, IsSound}, Places.{header_placed, places, results_by_slot}}}
use Rattle.{hill_images.proofs.{Exits.MayAdmit, Nexts.agree_length, Submitted.{results_of, verdict_bouts}}, hill_store.specs.Seen.{Seen, seen}}

-- the results of a challenger that was judged, by the slots of those on the hill
pub results_are : (h : HeaderParts) (hill : Kept) (w : WarriorParts) (judged : Verdict) (results : List Wins) (es : List HeaderEntry) (bouts : List Bout)
    → results ≡ results_by_slot es bouts → es ≡ h.entries → bouts ≡ judged.bouts → judged ≡ verdict_kept hill w → results ≡ results_of h hill w
results_are h hill w judged results es bouts is same_es same_bouts judged_is =
    is ∙ ap₂ results_by_slot same_es (same_bouts ∙ ap (λ (v : Verdict). v.bouts) judged_is ∙ verdict_bouts hill w)

-- its slot, and the header that names it
pub places_are : (h next : HeaderParts) (hill : Kept) (w : WarriorParts) (judged : Verdict) (slot : ℕ) (results : List Wins)
    → next ≡ header_placed h judged.falls slot → results ≡ results_of h hill w → places new_layout next slot w results ≡ places new_layout (header_placed h judged.falls slot) slot w (results_of h hill w)
places_are h next hill w judged slot results next_is results_is = ap₂ (λ (x : HeaderParts) (rs : List Wins). places new_layout x slot w rs) next_is results_is

-- there is a result for each on the hill
pub results_each : (h : HeaderParts) (hill : Kept) (w : WarriorParts) (judged : Verdict) (es : List HeaderEntry) (bouts : List Bout)
    → Agree h.entries hill.members → es ≡ h.entries → bouts ≡ judged.bouts → judged ≡ verdict_kept hill w → length bouts ≡ length es
results_each h hill w judged es bouts agree same_es same_bouts judged_is =
    ap length (same_bouts ∙ ap (λ (v : Verdict). v.bouts) judged_is ∙ verdict_bouts hill w)
    ∙ length-map hill.members (λ (m : Member). match_of hill.settings m.warrior w)
    ∙ sym (agree_length h.entries hill.members agree) ∙ ap length (sym same_es)

module _ {D : Type 0} (facts : DeviceFacts D) (device : D) (h : HeaderParts) (hill : Kept) (arena : RawSettings) (reopen : Bool) (w : WarriorParts) (judged : Verdict) (slot : ℕ) where
  -- what is known of a store as its caller sees it
  pub may_admit : (store : Seen D) (es : List HeaderEntry) → seen device hill h.generation reopen ≡ store → IsSound facts device h hill arena reopen → store.reopen ≡ false → store.generation < 2 ^ 64 - 1
      → Fits store.hill.settings w → judged ≡ verdict_kept store.hill w → judged.stays ≡ true → es ≡ h.entries → SlotIsFree slot es → slot ≤ length es
      → MayAdmit new_layout facts device h hill arena reopen w judged slot
  may_admit store es is sound is_open more fits judged_is stays_is same free within = record {
    sound = sound;
    is_open = ap (λ (s : Seen D). s.reopen) is ∙ is_open;
    more = subst (λ (s : Seen D). s.generation < 2 ^ 64 - 1) (sym is) more;
    fits = subst (λ (s : Seen D). Fits s.hill.settings w) (sym is) fits;
    judged_is = judged_is ∙ ap (λ (s : Seen D). verdict_kept s.hill w) (sym is);
    stays_is = stays_is;
    free = subst (SlotIsFree slot) same free;
    within = subst (λ (xs : List HeaderEntry). slot ≤ length xs) same within;
  }
