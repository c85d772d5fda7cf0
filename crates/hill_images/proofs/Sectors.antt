-- The sectors of slots: where they lie, what is in them while sectors are written, and what a stop leaves of a run of writes.
use Rattle.std.proofs.Common.{◌≡◌, ◌≢◌, ◌⊎◌, inl, inr, ℕ, zero, suc, ◌+◌, ◌<◌, ◌≤◌, List, [], ◌∷◌, ◌++◌, length, take, get_or, Result, Ok, Err, IsErr, true≢false, refl, sym, ap, ap₂, subst, ◌∙◌}
use Rattle.{std.proofs.{Common.arith, lemmas.Bool.cases_lt, Math.Nat.mul-le-mul_left}, war_types.specs.Warrior.WarriorParts, sector_disk.specs.{Disk.{Disk, current, wrote}, Image.{Images, put}}}
use Rattle.{sector_disk.specs.Changes.{after, Begun, Changes}, sector_disk.proofs.{Images.{put-same, put-other, current-wrote, images_write}, Runs.begun_none}}
use Rattle.{hill_bytes.specs.{declared.wins.Wins.Wins, Layout.{Layout, sectors_from, slot_at, slot_bytes, slot_in}}, hill_bytes.proofs.SlotBytes.length-slot, hill_images.specs.Places.writes_from}

-- ---- where they lie

-- this one is no sector of the slot
abbrev pub IsOutside : Layout → ℕ → ℕ → Type 0
IsOutside layout n slot = (m : ℕ) → slot_at layout slot ≤ m → m < slot_at layout slot + (layout.full + 1) → m ≢ n

pub outside_headers : (layout : Layout) (n slot : ℕ) → n < 2 → IsOutside layout n slot
outside_headers layout n slot low m from to same = omega (arith, low, from, same)

-- a slot ends before the next begins
pub slot_before : (layout : Layout) (a b : ℕ) → a < b → slot_at layout a + (layout.full + 1) ≤ slot_at layout b
slot_before layout a b below = omega (arith, mul-le-mul_left {m = a + 1} {n = b} (layout.full + 1) (omega (arith, below)))

pub outside_slot : (layout : Layout) (n slot other : ℕ) → other ≢ slot → slot_at layout slot ≤ n → n < slot_at layout slot + (layout.full + 1) → IsOutside layout n other
outside_slot layout n slot other apart from to m from_m to_m same = elim (cases_lt other slot) [
  | inl below ↦ omega (arith, slot_before layout other slot below, from, to_m, same)
  | inr above ↦ omega (arith, slot_before layout slot other (omega (arith, above, apart)), to, from_m, same)
]

-- ---- what is in them

pub from-same : (k at : ℕ) (image other : ℕ → List ℕ) → ((m : ℕ) → at ≤ m → m < at + k → other m ≡ image m) → sectors_from k at other ≡ sectors_from k at image
from-same zero at image other same = refl
from-same (suc k) at image other same =
    ap₂ (λ (x : List ℕ) (xs : List (List ℕ)). x ∷ xs) (same at (omega arith) (omega arith))
    (from-same k (at + 1) image other (λ m low high. same m (omega (arith, low)) (omega (arith, high))))

-- a write elsewhere leaves a slot
pub slot-elsewhere : (layout : Layout) (image : ℕ → List ℕ) (n : ℕ) (content : List ℕ) (slot : ℕ) → IsOutside layout n slot → slot_in layout (put n content image) slot ≡ slot_in layout image slot
slot-elsewhere layout image n content slot outside =
    from-same (layout.full + 1) (slot_at layout slot) image (put n content image) (λ m low high. put-other image n m content (outside m low high))

pub from-at : (k at i : ℕ) (image : ℕ → List ℕ) (d : List ℕ) → i < k → get_or (sectors_from k at image) i d ≡ image (at + i)
from-at zero at i image d below = absurd (omega (arith, below))
from-at (suc k) at zero image d below = ap image (omega arith)
from-at (suc k) at (suc i) image d below = from-at k (at + 1) i image d (omega (arith, below)) ∙ ap image (omega arith)

pub length-from : (k at : ℕ) (image : ℕ → List ℕ) → length (sectors_from k at image) ≡ k
length-from zero at image = refl
length-from (suc k) at image = ap suc (length-from k (at + 1) image)

-- the image with these sectors, one after the other from one on
abbrev pub puts : ℕ → List (List ℕ) → (ℕ → List ℕ) → ℕ → List ℕ
puts at [] image = image
puts at (bytes ∷ sectors) image = puts (at + 1) sectors (put at bytes image)

puts-below : (at : ℕ) (sectors : List (List ℕ)) (image : ℕ → List ℕ) (n : ℕ) → n < at → puts at sectors image n ≡ image n
puts-below at [] image n below = refl
puts-below at (bytes ∷ sectors) image n below =
    puts-below (at + 1) sectors (put at bytes image) n (omega (arith, below)) ∙ put-other image at n bytes (λ same. omega (arith, below, same))

from-puts : (sectors : List (List ℕ)) (at : ℕ) (image : ℕ → List ℕ) → sectors_from (length sectors) at (puts at sectors image) ≡ sectors
from-puts [] at image = refl
from-puts (bytes ∷ sectors) at image =
    ap₂ (λ (x : List ℕ) (xs : List (List ℕ)). x ∷ xs)
    (puts-below (at + 1) sectors (put at bytes image) at (omega arith) ∙ put-same image at bytes)
    (from-puts sectors (at + 1) (put at bytes image))

-- the image with a warrior and its results in a slot
abbrev pub with_slot : Layout → ℕ → WarriorParts → List Wins → (ℕ → List ℕ) → ℕ → List ℕ
with_slot layout slot w results image = puts (slot_at layout slot) (slot_bytes layout w results) image

pub slot-put : (layout : Layout) (slot : ℕ) (w : WarriorParts) (results : List Wins) (image : ℕ → List ℕ) → slot_in layout (with_slot layout slot w results image) slot ≡ slot_bytes layout w results
slot-put layout slot w results image =
    ap (λ k. sectors_from k (slot_at layout slot) (with_slot layout slot w results image)) (sym (length-slot layout w results))
    ∙ from-puts (slot_bytes layout w results) (slot_at layout slot) image

-- ---- a run of writes

pub current-writes : (at : ℕ) (sectors : List (List ℕ)) (disk : Disk) → current (after (writes_from at sectors) disk) ≡ puts at sectors (current disk)
current-writes at [] disk = refl
current-writes at (bytes ∷ sectors) disk = current-writes (at + 1) sectors (wrote at bytes disk) ∙ ap (puts (at + 1) sectors) (current-wrote disk at bytes)

-- what an Err leaves
pub changes_cut : {T E : Type 0} (changes : List (Disk → Disk)) (old new : Disk) (result : Result T E) → IsErr result → Begun changes old new → Changes changes old new result
changes_cut changes old new (Ok value) is begun = absurd (true≢false (sym is))
changes_cut changes old new (Err error) is begun = begun

-- one more was written: for `write_slot`
pub wrote_more : (n at : ℕ) (sectors : List (List ℕ)) (d : List ℕ) (old mid new : Disk) → n < length sectors → mid ≡ after (writes_from at (take n sectors)) old → new ≡ wrote (at + n) (get_or sectors n d) mid
    → new ≡ after (writes_from at (take (suc n) sectors)) old
wrote_more n at [] d old mid new inside before made = absurd (omega (arith, inside))
wrote_more zero at (x ∷ xs) d old mid new inside before made =
    let here : at + 0 ≡ at = omega arith in
    made ∙ ap (λ k. wrote k x mid) here ∙ ap (wrote at x) before
wrote_more (suc n) at (x ∷ xs) d old mid new inside before made =
    let past : at + suc n ≡ at + 1 + n = omega arith in
    wrote_more n (at + 1) xs d (wrote at x old) mid new (omega (arith, inside)) before (made ∙ ap (λ k. wrote k (get_or xs n d) mid) past)

-- it was stopped in writing one
pub wrote_some : (n at : ℕ) (sectors : List (List ℕ)) (d : List ℕ) (old mid new : Disk) → n < length sectors → mid ≡ after (writes_from at (take n sectors)) old → Begun (wrote (at + n) (get_or sectors n d) ∷ []) mid new
    → Begun (writes_from at sectors) old new
wrote_some n at [] d old mid new inside before begun = absurd (omega (arith, inside))
wrote_some zero at (x ∷ xs) d old mid new inside before (inl none) = inl (none ∙ before)
wrote_some zero at (x ∷ xs) d old mid new inside before (inr one) =
    let here : at + 0 ≡ at = omega arith in
    inr (subst (Begun (writes_from (at + 1) xs) (wrote at x old)) (sym (one ∙ ap (λ k. wrote k x mid) here ∙ ap (wrote at x) before)) (begun_none (writes_from (at + 1) xs) (wrote at x old)))
wrote_some (suc n) at (x ∷ xs) d old mid new inside before begun =
    let past : at + suc n ≡ at + 1 + n = omega arith in
    inr (wrote_some n (at + 1) xs d (wrote at x old) mid new (omega (arith, inside)) before (subst (λ k. Begun (wrote k (get_or xs n d) ∷ []) mid new) past begun))

-- writes to these sectors keep P
abbrev pub IsKeptBy : ((ℕ → List ℕ) → Type 0) → ℕ → ℕ → Type 0
IsKeptBy P from to = (m : ℕ) (content : List ℕ) (image : ℕ → List ℕ) → from ≤ m → m < to → P image → P (put m content image)

pub puts_keep : (P : (ℕ → List ℕ) → Type 0) (at to : ℕ) (sectors : List (List ℕ)) (image : ℕ → List ℕ) → at + length sectors ≤ to → IsKeptBy P at to → P image → P (puts at sectors image)
puts_keep P at to [] image room kept is = is
puts_keep P at to (bytes ∷ sectors) image room kept is =
    puts_keep P (at + 1) to sectors (put at bytes image) (omega (arith, room)) (λ m content other low. kept m content other (omega (arith, low))) (kept at bytes image (omega arith) (omega (arith, room)) is)

images_wrote : (P : (ℕ → List ℕ) → Type 0) (at to : ℕ) (bytes : List ℕ) (disk : Disk) → at < to → IsKeptBy P at to → Images disk P → Images (wrote at bytes disk) P
images_wrote P at to bytes disk below kept each = images_write disk at bytes P each (λ image is. kept at bytes image (omega arith) below (each image is))

pub images_writes : (P : (ℕ → List ℕ) → Type 0) (at to : ℕ) (sectors : List (List ℕ)) (disk : Disk) → at + length sectors ≤ to → IsKeptBy P at to → Images disk P → Images (after (writes_from at sectors) disk) P
images_writes P at to [] disk room kept each = each
images_writes P at to (bytes ∷ sectors) disk room kept each =
    images_writes P (at + 1) to sectors (wrote at bytes disk) (omega (arith, room)) (λ m content other low. kept m content other (omega (arith, low)))
    (images_wrote P at to bytes disk (omega (arith, room)) kept each)

-- stopped among writes that keep P every image has P; otherwise all of them were made
pub writes_stopped : (P : (ℕ → List ℕ) → Type 0) (at to : ℕ) (sectors : List (List ℕ)) (rest : List (Disk → Disk)) (disk stopped : Disk) → at + length sectors ≤ to → IsKeptBy P at to → Images disk P
    → Begun (writes_from at sectors ++ rest) disk stopped → Images stopped P ⊎ Begun rest (after (writes_from at sectors) disk) stopped
writes_stopped P at to [] rest disk stopped room kept each begun = inr begun
writes_stopped P at to (bytes ∷ sectors) rest disk stopped room kept each (inl none) = inl (subst (λ d. Images d P) (sym none) each)
writes_stopped P at to (bytes ∷ sectors) rest disk stopped room kept each (inr further) =
    writes_stopped P (at + 1) to sectors rest (wrote at bytes disk) stopped (omega (arith, room)) (λ m content other low. kept m content other (omega (arith, low)))
    (images_wrote P at to bytes disk (omega (arith, room)) kept each) further
