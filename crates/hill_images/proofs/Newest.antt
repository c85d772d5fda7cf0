-- The newest header, while sectors are written, and that there is one.
use Rattle.std.proofs.{Common.{◌≡◌, ℕ, inl, inr, ◌+◌, ◌%◌, ◌<◌, ◌≤◌, List, [], ◌∷◌, refl, sym, ap, subst, ◌∙◌, arith}, lemmas.Bool.cases_eq, Math.Nat.mod-lt}
use Rattle.{war_types.specs.{declared.settings.RawSettings.RawSettings, Settings.AreSettings}, koth_hill.specs.{Hill.{Member, Hill}, Kept.{Kept, hill_in, fought}}}
use Rattle.{sector_disk.specs.Image.put, sector_disk.proofs.Images.{put-same, put-other}}
use Rattle.hill_bytes.specs.{declared.header.HeaderEntry.HeaderEntry, Layout.{Layout, HeaderParts, IsHeaderParts, IsHeader, code_room, header_bytes, slot_in}}
use Rattle.{hill_bytes.proofs.Codes.{one_header, one_slot}, hill_images.specs.Stands.{IsNewestIn, IsHeld, AllHeld, ShowsIn, ReadsIn, StandsIn, results_read}}

-- the sector of a generation is one of the first two
pub parity_low : (generation : ℕ) → generation % 2 < 2
parity_low generation = mod-lt generation (omega arith)

-- a write past the headers leaves the newest
pub newest_elsewhere : {layout : Layout} (image : ℕ → List ℕ) (n : ℕ) (content : List ℕ) (h : HeaderParts) → 2 ≤ n → IsNewestIn layout image h → IsNewestIn layout (put n content image) h
newest_elsewhere {layout} image n content h past is = record {
  here = subst (λ bytes. IsHeader layout bytes h) (sym (as_before h)) is.here;
  newest = λ g. λ here. is.newest g (subst (λ bytes. IsHeader layout bytes g) (as_before g) here);
}
  where
    as_before : (g : HeaderParts) → put n content image (g.generation % 2) ≡ image (g.generation % 2)
    as_before g = put-other image n (g.generation % 2) content (λ same. let low : g.generation % 2 < 2 = parity_low g.generation in omega arith)

-- the next header is the newest once it is written
pub newest_next : {layout : Layout} (image : ℕ → List ℕ) (h next : HeaderParts) → IsHeaderParts next → next.settings ≡ h.settings → next.generation ≡ h.generation + 1 → IsNewestIn layout image h → IsNewestIn layout (put (next.generation % 2) (header_bytes layout next) image) next
newest_next {layout} image h next fits same_settings follows is = record {
  here = record { header = fits; room = room; bytes_are = put-same image (next.generation % 2) (header_bytes layout next) };
  newest = λ g. λ here. elim (cases_eq (g.generation % 2) (next.generation % 2)) [
    | inl same ↦
        let bytes : put (next.generation % 2) (header_bytes layout next) image (g.generation % 2) ≡ header_bytes layout next =
        ap (put (next.generation % 2) (header_bytes layout next) image) same ∙ put-same image (next.generation % 2) (header_bytes layout next) in
        let one : g ≡ next = one_header layout (header_bytes layout next) g next (subst (λ x. IsHeader layout x g) bytes here) (record { header = fits; room = room; bytes_are = refl }) in
        let equal : g.generation ≡ next.generation = ap (λ (x : HeaderParts). x.generation) one in
        omega arith
    | inr other ↦
        let before : IsHeader layout (image (g.generation % 2)) g = subst (λ x. IsHeader layout x g) (put-other image (next.generation % 2) (g.generation % 2) (header_bytes layout next) other) here in
        let below : g.generation ≤ h.generation = is.newest g before in
        omega arith
  ];
}
  where
    room : next.settings.length ≤ code_room layout
    room = subst (λ (s : RawSettings). s.length ≤ code_room layout) (sym same_settings) is.here.room

-- there is one newest header
pub one_newest : {layout : Layout} (image : ℕ → List ℕ) (g h : HeaderParts) → IsNewestIn layout image g → IsNewestIn layout image h → g ≡ h
one_newest {layout} image g h is_g is_h =
    let equal : g.generation ≡ h.generation = (let up : g.generation ≤ h.generation = is_h.newest g is_g.here in let down : h.generation ≤ g.generation = is_g.newest h is_h.here in omega arith) in
    one_header layout (image (h.generation % 2)) g h (subst (λ n. IsHeader layout (image (n % 2)) g) equal is_g.here) is_h.here

one_member : {layout : Layout} (s : RawSettings) (image : ℕ → List ℕ) (e : HeaderEntry) (m n : Member) → AreSettings s → s.length ≤ code_room layout → IsHeld layout s image e m → IsHeld layout s image e n → m ≡ n
one_member {layout} s image e m n are room is_m is_n = λ i. record {
  entry = (is_m.entry ∙ sym is_n.entry) i;
  age = (is_m.age ∙ sym is_n.age) i;
  warrior = one_slot layout s (slot_in layout image e.slot) m.warrior n.warrior are room is_m.slot is_n.slot i;
}

-- these entries name one list of members
pub one_list : (layout : Layout) (s : RawSettings) (image : ℕ → List ℕ) (es : List HeaderEntry) (ms ns : List Member) → AreSettings s → s.length ≤ code_room layout → AllHeld layout s image es ms → AllHeld layout s image es ns → ms ≡ ns
one_list layout s image [] [] [] are room a b = refl
one_list layout s image [] [] (n ∷ ns) are room a b = absurd b
one_list layout s image [] (m ∷ ms) ns are room a b = absurd a
one_list layout s image (e ∷ es) [] ns are room a b = absurd a
one_list layout s image (e ∷ es) (m ∷ ms) [] are room a b = absurd b
one_list layout s image (e ∷ es) (m ∷ ms) (n ∷ ns) are room a b = λ i. one_member s image e m n are room a.0 b.0 i ∷ one_list layout s image es ms ns are room a.1 b.1 i

-- a newest header shows one hill
pub one_shown : {layout : Layout} (image : ℕ → List ℕ) (h : HeaderParts) (x y : Kept) → ShowsIn layout image h x → ShowsIn layout image h y → x ≡ y
one_shown {layout} image h x y is_x is_y =
    let settings : x.settings ≡ y.settings = sym is_x.settings ∙ is_y.settings in
    let are : AreSettings x.settings = subst AreSettings is_x.settings is_x.newest.here.header.settings in
    let room : x.settings.length ≤ code_room layout = subst (λ (s : RawSettings). s.length ≤ code_room layout) is_x.settings is_x.newest.here.room in
    let members : x.members ≡ y.members = one_list layout x.settings image h.entries x.members y.members are room is_x.members (subst (λ s. AllHeld layout s image h.entries y.members) (sym settings) is_y.members) in
    let results : x.results ≡ y.results = is_x.results ∙ ap (λ (s : RawSettings). results_read layout s.rounds image h.entries) settings ∙ sym is_y.results in
    λ i. record { settings = settings i; counter = (sym is_x.counter ∙ is_y.counter) i; members = members i; results = results i }

-- an image reads as one hill at most
pub reads_once : {layout : Layout} (size : ℕ) (image : ℕ → List ℕ) (x y : Kept) → ReadsIn layout size image x → ReadsIn layout size image y → x ≡ y
reads_once {layout} size image x y is_x is_y =
    one_shown image is_y.header x y
    (subst (λ h. ShowsIn layout image h x) (one_newest image is_x.header is_y.header is_x.shows.newest is_y.shows.newest) is_x.shows)
    is_y.shows

-- and stands for one at most
pub stands_once : {layout : Layout} (size : ℕ) (image : ℕ → List ℕ) (x y : Hill) → StandsIn layout size image x → StandsIn layout size image y → x ≡ y
stands_once size image x y is_x is_y = ap hill_in (reads_once size image (fought x) (fought y) is_x is_y)
