-- Headers rise, so one that is found again stood all the time. While both stand, the slots of the newest one's members do.
use Rattle.std.proofs.{Common.{◌≡◌, ◌⊎◌, inl, inr, ℕ, ◌%◌, ◌<◌, ◌≤◌, List, [], ◌∷◌, refl, sym, ap, subst, ◌∙◌, arith}, lemmas.Bool.cases_eq}
use Rattle.{sector_disk.specs.Image.put, sector_disk.proofs.Images.{put-same, put-other}}
use Rattle.{war_types.specs.declared.settings.RawSettings.RawSettings, hill_bytes.specs.Layout.{HeaderParts, IsHeader, code_room, header_bytes, new_layout, slot_at}}
use Rattle.{hill_images.specs.Stands.IsNewest, hill_images.proofs.Newest.parity_low}
use Rattle.hill_look.specs.Meanwhile.{IsFree, IsNext, Write, after_write, Writes, MovesOn}

-- a valid header of an image
abbrev pub Holds : (ℕ → List ℕ) → HeaderParts → Type 0
Holds image h = IsHeader new_layout (image (h.generation % 2)) h

-- sector n holds a header that is above all of an earlier image
pub record IsOver (old : ℕ → List ℕ) (n : ℕ) (new : ℕ → List ℕ) : Type 0 where
  pub header : HeaderParts
  pub parity : header.generation % 2 ≡ n
  pub here : IsHeader new_layout (new n) header
  pub above : (g : HeaderParts) → Holds old g → g.generation < header.generation

-- both header sectors are the same
abbrev pub SameHeaders : (ℕ → List ℕ) → (ℕ → List ℕ) → Type 0
SameHeaders old new = (n : ℕ) → n < 2 → new n ≡ old n

holds_same : (old new : ℕ → List ℕ) (h : HeaderParts) → SameHeaders old new → Holds new h → Holds old h
holds_same old new h same here = subst (λ bytes. IsHeader new_layout bytes h) (same (h.generation % 2) (parity_low h.generation)) here

pub same_back : (old new : ℕ → List ℕ) → SameHeaders old new → SameHeaders new old
same_back old new same n low = sym (same n low)

pub newest_same : (old new : ℕ → List ℕ) (h : HeaderParts) → SameHeaders old new → IsNewest new h → IsNewest old h
newest_same old new h same is = record {
  here = holds_same old new h same is.here;
  newest = λ g here. is.newest g (holds_same new old g (same_back old new same) here);
}

pub free_same : (old new : ℕ → List ℕ) (n : ℕ) → SameHeaders old new → IsFree new n → IsFree old n
free_same old new n same is = record { header = is.header; newest = newest_same old new is.header same is.newest; slot = is.slot; free = is.free; from = is.from; to = is.to }

-- a sector of a slot is no header's
low_same : (image : ℕ → List ℕ) (n : ℕ) (content : List ℕ) → IsFree image n → SameHeaders image (put n content image)
low_same image n content is k low = put-other image n k content (λ same. let from : slot_at new_layout is.slot ≤ n = is.from in omega (arith, from, low, same))

-- the next header is valid once it is written, and above all before it
next_here : (image : ℕ → List ℕ) (next : HeaderParts) → IsNext image next → Holds (after_write (Write.Header next) image) next
next_here image next is = record {
  header = is.parts;
  room = subst (λ (s : RawSettings). s.length ≤ code_room new_layout) (sym is.settings) is.newest.here.room;
  bytes_are = put-same image (next.generation % 2) (header_bytes new_layout next);
}

next_above : (image : ℕ → List ℕ) (next g : HeaderParts) → IsNext image next → Holds image g → g.generation < next.generation
next_above image next g is here = let below : g.generation ≤ is.header.generation = is.newest.newest g here in omega (arith, below, is.generation)

over_slot : (image old new : ℕ → List ℕ) (n : ℕ) → SameHeaders image old → IsOver old n new → IsOver image n new
over_slot image old new n same over = record {
  header = over.header;
  parity = over.parity;
  here = over.here;
  above = λ g here. over.above g (holds_same old image g (same_back image old same) here);
}

over_next : (image new : ℕ → List ℕ) (n : ℕ) (next : HeaderParts) → IsNext image next → IsOver (after_write (Write.Header next) image) n new → IsOver image n new
over_next image new n next is over = record {
  header = over.header;
  parity = over.parity;
  here = over.here;
  above = λ g here. let low = next_above image next g is here in let high = over.above next (next_here image next is) in omega (arith, low, high);
}

over_this : (image new : ℕ → List ℕ) (n : ℕ) (next : HeaderParts) → IsNext image next → next.generation % 2 ≡ n → new n ≡ after_write (Write.Header next) image n → IsOver image n new
over_this image new n next is parity same = record {
  header = next;
  parity = parity;
  here = subst (λ bytes. IsHeader new_layout bytes next) (sym same) (subst (λ k. IsHeader new_layout (after_write (Write.Header next) image k) next) parity (next_here image next is));
  above = λ g here. next_above image next g is here;
}

-- a header's sector is as it was, or holds one that is above all of before
same_or_over : (n : ℕ) (writes : List Write) (old new : ℕ → List ℕ) → n < 2 → Writes old writes new → (new n ≡ old n) ⊎ IsOver old n new
same_or_over n [] old new low made = inl (ap (λ (image : ℕ → List ℕ). image n) made)
same_or_over n (Write.InSlot m content ∷ writes) old new low made =
    elim (same_or_over n writes (put m content old) new low made.1) [
      | inl is ↦ inl (is ∙ low_same old m content made.0 n low)
      | inr over ↦ inr (over_slot old (put m content old) new n (low_same old m content made.0) over)
    ]
same_or_over n (Write.Header next ∷ writes) old new low made =
    elim (same_or_over n writes (after_write (Write.Header next) old) new low made.1) [
      | inl is ↦ elim (cases_eq n (next.generation % 2)) [
        | inl this ↦ inr (over_this old new n next made.0 (sym this) is)
        | inr other ↦ inl (is ∙ put-other old (next.generation % 2) n (header_bytes new_layout next) other)
      ]
      | inr over ↦ inr (over_next old new n next made.0 over)
    ]

holds_at : (image : ℕ → List ℕ) (n : ℕ) (h : HeaderParts) → h.generation % 2 ≡ n → IsHeader new_layout (image n) h → Holds image h
holds_at image n h parity here = subst (λ k. IsHeader new_layout (image k) h) (sym parity) here

-- one that is above all of before is not found there
not_over : (old new : ℕ → List ℕ) (n : ℕ) → IsOver old n new → new n ≡ old n → ⊥
not_over old new n over same =
    let again : over.header.generation < over.header.generation =
    over.above over.header (holds_at old n over.header over.parity (subst (λ bytes. IsHeader new_layout bytes over.header) same over.here)) in
    omega (arith, again)

-- nor is it found later
over_later : (old mid new : ℕ → List ℕ) (n : ℕ) → n < 2 → IsOver old n mid → MovesOn mid new → IsOver old n new
over_later old mid new n low over moved = elim (same_or_over n moved.writes mid new low moved.made) [
  | inl is ↦ record { header = over.header; parity = over.parity; here = subst (λ bytes. IsHeader new_layout bytes over.header) (sym is) over.here; above = over.above }
  | inr more ↦ record {
    header = more.header;
    parity = more.parity;
    here = more.here;
    above = λ g here. let low_g = over.above g here in let high = more.above over.header (holds_at mid n over.header over.parity over.here) in omega (arith, low_g, high);
  }
]

-- a header's sector that is found again was the same at each moment between
pub steady : (n : ℕ) (old mid new : ℕ → List ℕ) → n < 2 → MovesOn old mid → MovesOn mid new → new n ≡ old n → mid n ≡ old n
steady n old mid new low front back same = elim (same_or_over n front.writes old mid low front.made) [
  | inl is ↦ is
  | inr over ↦ absurd (not_over old new n (over_later old mid new n low over back) same)
]

-- while the headers stand, so do the sectors that are not free
slots_stand : (n : ℕ) (writes : List Write) (old new : ℕ → List ℕ) → Writes old writes new → SameHeaders old new → (IsFree old n → ⊥) → new n ≡ old n
slots_stand n [] old new made same taken = ap (λ (image : ℕ → List ℕ). image n) made
slots_stand n (Write.InSlot m content ∷ writes) old new made same taken =
    let here : SameHeaders old (put m content old) = low_same old m content made.0 in
    slots_stand n writes (put m content old) new made.1 (λ k low. same k low ∙ sym (here k low)) (λ is. taken (free_same old (put m content old) n here is))
    ∙ put-other old m n content (λ this. taken (subst (IsFree old) (sym this) made.0))
slots_stand n (Write.Header next ∷ writes) old new made same taken =
    let low : next.generation % 2 < 2 = parity_low next.generation in
    absurd (elim (same_or_over (next.generation % 2) writes (after_write (Write.Header next) old) new low made.1) [
      | inl is ↦ not_over old new (next.generation % 2) (over_this old new (next.generation % 2) next made.0 refl is) (same (next.generation % 2) low)
      | inr over ↦ not_over old new (next.generation % 2) (over_next old new (next.generation % 2) next made.0 over) (same (next.generation % 2) low)
    ])

pub slot_stands : (n : ℕ) (old new : ℕ → List ℕ) → MovesOn old new → SameHeaders old new → (IsFree old n → ⊥) → new n ≡ old n
slot_stands n old new moved same taken = slots_stand n moved.writes old new moved.made same taken
