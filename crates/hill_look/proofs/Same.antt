-- What was read shows the hill that stood, and is refused for a reason that stood.
use Rattle.std.proofs.Common.{◌≡◌, ℕ, inl, inr, ◌+◌, ◌%◌, ◌<◌, ◌≤◌, min, List, [], ◌∷◌, All, refl, sym, subst, ◌∙◌, arith}
use Rattle.std.proofs.lemmas.List.Elements.{All-nil, All-cons, All-head, All-tail}
use Rattle.{war_types.specs.declared.settings.RawSettings.RawSettings, koth_hill.specs.{Hill.Member, Kept.Kept}, sector_disk.specs.Memory.{MemoryState, memory_size}}
use Rattle.hill_bytes.specs.{declared.header.HeaderEntry.HeaderEntry, Layout.{HeaderParts, IsEntry, IsHeader, new_layout, sectors_for, slot_at, slot_in}}
use Rattle.hill_images.specs.{declared.refusal.Refusal.Refusal, Stands.{AllHeld, IsNewest, Reads, Shows, slots_of}}
use Rattle.hill_images.proofs.{Held.{Apart, apart_slot, held_same}, Newest.{one_newest, parity_low}, Results.{AreSame, results-same}, Sectors.{from-same, slot_before}}
use Rattle.hill_look.specs.{Looked.{Refuses, taken}, Meanwhile.IsFree}
use Rattle.hill_look.proofs.Steady.{SameHeaders, newest_same, same_back}

are_back : (image other : ℕ → List ℕ) (es : List HeaderEntry) → AreSame new_layout image other es → AreSame new_layout other image es
are_back image other [] same = All-nil (λ slot. slot_in new_layout image slot ≡ slot_in new_layout other slot)
are_back image other (e ∷ es) same =
    All-cons (λ slot. slot_in new_layout image slot ≡ slot_in new_layout other slot) e.slot (slots_of es)
    (sym (All-head (λ slot. slot_in new_layout other slot ≡ slot_in new_layout image slot) e.slot (slots_of es) same))
    (are_back image other es (All-tail (λ slot. slot_in new_layout other slot ≡ slot_in new_layout image slot) e.slot (slots_of es) same))

held_all : (s : RawSettings) (image other : ℕ → List ℕ) (es : List HeaderEntry) (ms : List Member) → AreSame new_layout image other es → AllHeld new_layout s image es ms → AllHeld new_layout s other es ms
held_all s image other [] [] same held = tt
held_all s image other [] (m ∷ ms) same held = held
held_all s image other (e ∷ es) [] same held = held
held_all s image other (e ∷ es) (m ∷ ms) same held = (
  held_same s image other e m (All-head (λ slot. slot_in new_layout other slot ≡ slot_in new_layout image slot) e.slot (slots_of es) same) held.0,
  held_all s image other es ms (All-tail (λ slot. slot_in new_layout other slot ≡ slot_in new_layout image slot) e.slot (slots_of es) same) held.1,
)

-- an image with the same headers and the same slots shows the same
shows_same : (image other : ℕ → List ℕ) (h : HeaderParts) (hill : Kept) → SameHeaders other image → AreSame new_layout image other h.entries → Shows image h hill → Shows other h hill
shows_same image other h hill headers slots is = record {
  newest = newest_same other image h headers is.newest;
  settings = is.settings;
  counter = is.counter;
  members = held_all hill.settings image other h.entries hill.members slots is.members;
  results = is.results ∙ sym (results-same new_layout hill.settings.rounds image other h.entries slots);
}

module _ (size : ℕ) (memory : MemoryState) (moment : ℕ → List ℕ) (size_is : memory_size memory ≡ min size 86) (two : 2 ≤ memory_size memory)
    (same : (n : ℕ) → n < memory_size memory → (IsFree moment n → ⊥) → taken memory n ≡ moment n) where
  headers : SameHeaders moment (taken memory)
  headers n low = same n (omega (arith, low, two)) (λ free. let from : slot_at new_layout free.slot ≤ n = free.from in omega (arith, from, low))

  -- the slots of these entries, of which none is free
  slots_taken : (capacity counter : ℕ) (es : List HeaderEntry) → sectors_for capacity ≤ memory_size memory → All (IsEntry capacity counter) es → ((n : ℕ) → IsFree moment n → Apart new_layout n es) → AreSame new_layout moment (taken memory) es
  slots_taken capacity counter [] room each apart = All-nil (λ slot. slot_in new_layout (taken memory) slot ≡ slot_in new_layout moment slot)
  slots_taken capacity counter (e ∷ es) room each apart =
      let entry : IsEntry capacity counter e = All-head (IsEntry capacity counter) e es each in
      let ends : slot_at new_layout e.slot + (new_layout.full + 1) ≤ slot_at new_layout (capacity + 1) = slot_before new_layout e.slot (capacity + 1) (omega (arith, entry.slot)) in
      All-cons (λ slot. slot_in new_layout (taken memory) slot ≡ slot_in new_layout moment slot) e.slot (slots_of es)
      (from-same (new_layout.full + 1) (slot_at new_layout e.slot) moment (taken memory)
      (λ n from to. same n (omega (arith, to, ends, room)) (λ free. (apart n free).0 n from to refl)))
      (slots_taken capacity counter es room (All-tail (IsEntry capacity counter) e es each) (λ n free. (apart n free).1))

  slots_same : (h : HeaderParts) → IsNewest moment h → sectors_for h.settings.capacity ≤ memory_size memory → AreSame new_layout moment (taken memory) h.entries
  slots_same h newest room =
      slots_taken h.settings.capacity h.counter h.entries room newest.here.header.entries
      (λ n free. subst (λ (x : HeaderParts). Apart new_layout n x.entries) (one_newest moment free.header h free.newest newest)
      (apart_slot new_layout n free.slot free.header.entries free.from free.to free.free))

  -- it is the hill that stood
  pub reads_moment : (hill : Kept) → Reads (memory_size memory) (taken memory) hill → Reads size moment hill
  reads_moment hill is =
      let h = is.header in
      let newest : IsNewest moment h = newest_same moment (taken memory) h headers is.shows.newest in
      let room : sectors_for h.settings.capacity ≤ memory_size memory = subst (λ (s : RawSettings). sectors_for s.capacity ≤ memory_size memory) (sym is.shows.settings) is.room in record {
        header = h;
        shows = shows_same (taken memory) moment h hill headers (are_back moment (taken memory) h.entries (slots_same h newest room)) is.shows;
        room = omega (arith, is.room, size_is);
      }

  pub newest_moment : (h : HeaderParts) → IsNewest (taken memory) h → IsNewest moment h
  newest_moment h is = newest_same moment (taken memory) h headers is

  -- and the refusal
  pub refuses_moment : (why : Refusal) → Refuses (memory_size memory) (taken memory) why → Refuses size moment why
  refuses_moment Refusal.TooSmall (inl few) = inl (omega (arith, few, size_is))
  refuses_moment Refusal.TooSmall (inr (h, newest, few)) =
      let most : h.settings.capacity ≤ 20 = newest.here.header.settings.capacity_most in
      inr (h, newest_moment h newest, omega (arith, few, size_is, most))
  refuses_moment Refusal.NotAHill none = λ h here. none h (subst (λ bytes. IsHeader new_layout bytes h) (sym (headers (h.generation % 2) (parity_low h.generation))) here)
  refuses_moment Refusal.Damaged (h, newest, room, damaged) =
      let here : IsNewest moment h = newest_moment h newest in (
        h,
        here,
        omega (arith, room, size_is),
        (λ hill shows. damaged hill (shows_same moment (taken memory) h hill (same_back moment (taken memory) headers) (slots_same h here room) shows)),
      )
  refuses_moment Refusal.Disk any = tt
  refuses_moment Refusal.Memory any = tt
  refuses_moment Refusal.Occupied never = never
