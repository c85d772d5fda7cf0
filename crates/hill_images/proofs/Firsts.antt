-- The first header of a hill, on a device that holds none.
use Rattle.std.proofs.{Common.{◌≡◌, inl, inr, ℕ, ◌%◌, ◌≤◌, List, [], ◌∷◌, refl, sym, ap, subst, ◌∙◌, arith}, lemmas.Bool.cases_eq, lemmas.List.Elements.All-nil}
use Rattle.{war_types.specs.{declared.settings.RawSettings.RawSettings, Settings.AreSettings}, koth_hill.specs.{Hill.{IsHill, MayStand}, Step.new_hill, Kept.{Kept, new_kept}}}
use Rattle.sector_disk.specs.{Disk.{Disk, current, wrote, synced, IsSettled}, Image.{IsImage, Images, put}, Changes.{after, Begun}}
use Rattle.sector_disk.proofs.Images.{put-same, put-other, image-current, images_read, images_write, images_settled, images_sync}
use Rattle.{hill_bytes.specs.{Layout.{Layout, HeaderParts, IsHeaderParts, IsHeader, IsEntry, code_room, header_bytes, new_layout}, declared.format.Format.Format}, hill_bytes.proofs.Codes.one_header}
use Rattle.hill_images.specs.{Stands.{AllHeld, IsNewestIn, ShowsIn, IsReady, results_read}, Places.commits, Opening.{HoldsNone, HoldsNoneIn, first_header}, Writing.NoneOrHill}
use Rattle.hill_images.proofs.{Held.{apart_headers, held_elsewhere}, Newest.parity_low, Results.results-elsewhere, Stops.{committed_of, with_header}}

pub first_fits : (s : RawSettings) → AreSettings s → IsHeaderParts (first_header s)
first_fits s are = record {
  settings = are;
  generation = omega arith;
  counter = omega arith;
  few = omega arith;
  rising = tt;
  entries = All-nil (IsEntry s.capacity 0);
  slots = tt;
}

pub first_hill : (s : RawSettings) → AreSettings s → IsHill (new_hill s 0)
first_hill s are = record { settings = are; room = omega arith; rising = tt; members = All-nil (MayStand s 0) }

-- a header, and a hill that the slots of an image hold, which it shows once it is written
pub record MayShow (layout : Layout) (image : ℕ → List ℕ) (h : HeaderParts) (hill : Kept) : Type 0 where
  pub header : IsHeaderParts h
  pub room : h.settings.length ≤ code_room layout
  pub settings : h.settings ≡ hill.settings
  pub counter : h.counter ≡ hill.counter
  pub members : AllHeld layout hill.settings image h.entries hill.members
  pub results : hill.results ≡ results_read layout hill.settings.rounds image h.entries

-- a hill without warriors needs no slot
pub first_may : (layout : Layout) (s : RawSettings) (image : ℕ → List ℕ) → AreSettings s → s.length ≤ code_room layout → MayShow layout image (first_header s) (new_kept s 0)
first_may layout s image are long = record { header = first_fits s are; room = long; settings = refl; counter = refl; members = tt; results = refl }

-- it is the only one
first_newest : (layout : Layout) (image : ℕ → List ℕ) (h : HeaderParts) → IsHeaderParts h → h.settings.length ≤ code_room layout → HoldsNoneIn layout image → IsNewestIn layout (with_header layout h image) h
first_newest layout image h fits long none = record {
  here = record { header = fits; room = long; bytes_are = put-same image (h.generation % 2) (header_bytes layout h) };
  newest = λ g. λ here. elim (cases_eq (g.generation % 2) (h.generation % 2)) [
    | inl same ↦
        let bytes : with_header layout h image (g.generation % 2) ≡ header_bytes layout h = ap (with_header layout h image) same ∙ put-same image (h.generation % 2) (header_bytes layout h) in
        let one : g ≡ h = one_header layout (header_bytes layout h) g h (subst (λ x. IsHeader layout x g) bytes here) (record { header = fits; room = long; bytes_are = refl }) in
        let equal : g.generation ≡ h.generation = ap (λ (x : HeaderParts). x.generation) one in
        omega arith
    | inr other ↦ absurd (none g (subst (λ x. IsHeader layout x g) (put-other image (h.generation % 2) (g.generation % 2) (header_bytes layout h) other) here))
  ];
}

pub first_shows : (layout : Layout) (image : ℕ → List ℕ) (h : HeaderParts) (hill : Kept) → MayShow layout image h hill → HoldsNoneIn layout image → ShowsIn layout (with_header layout h image) h hill
first_shows layout image h hill may none = record {
  newest = first_newest layout image h may.header may.room none;
  settings = may.settings;
  counter = may.counter;
  members = held_elsewhere layout hill.settings image (h.generation % 2) (header_bytes layout h) h.entries hill.members (apart_headers layout (h.generation % 2) h.entries (parity_low h.generation)) may.members;
  results = may.results ∙ sym (results-elsewhere layout hill.settings.rounds image (h.generation % 2) (header_bytes layout h) h.entries (apart_headers layout (h.generation % 2) h.entries (parity_low h.generation)));
}

pub first_committed : (layout : Layout) (disk new : Disk) (h : HeaderParts) (hill : Kept) → MayShow layout (current disk) h hill → HoldsNoneIn layout (current disk) → new ≡ after (commits layout h) disk → IsReady layout new h hill
first_committed layout disk new h hill may none made =
    subst (λ d. IsReady layout d h hill) (sym made) (committed_of disk h hill (first_shows layout (current disk) h hill may none))

pub first_stopped : (disk new : Disk) (h : HeaderParts) (hill : Kept) → MayShow new_layout (current disk) h hill → IsSettled disk → HoldsNone (current disk) → Begun (commits new_layout h) disk new → Images new (NoneOrHill h hill)
first_stopped disk new h hill may settled none begun = elim begun [
  | inl before ↦ subst (λ d. Images d (NoneOrHill h hill)) (sym before) start
  | inr written ↦ elim written [
    | inl header ↦ subst (λ d. Images d (NoneOrHill h hill)) (sym header) between
    | inr all ↦ subst (λ d. Images d (NoneOrHill h hill)) (sym all) (images_sync (wrote n bytes disk) (NoneOrHill h hill) (images_read (wrote n bytes disk) (NoneOrHill h hill) between))
  ]
]
  where
    n : ℕ
    n = h.generation % 2

    bytes : List ℕ
    bytes = header_bytes new_layout h

    start : Images disk (NoneOrHill h hill)
    start = images_settled disk (NoneOrHill h hill) settled (inl none)

    between : Images (wrote n bytes disk) (NoneOrHill h hill)
    between = images_write disk n bytes (NoneOrHill h hill) start (images_settled disk (λ image. NoneOrHill h hill (put n bytes image)) settled
        (inr (first_shows new_layout (current disk) h hill may (none Format.New))))

-- a sync leaves an image that was there before
pub images_begun_sync : (disk new : Disk) → Begun (synced ∷ []) disk new → Images new (IsImage disk)
images_begun_sync disk new begun = elim begun [
  | inl none ↦ subst (λ d. Images d (IsImage disk)) (sym none) (λ image. λ is. is)
  | inr all ↦ subst (λ d. Images d (IsImage disk)) (sym all) (images_sync disk (IsImage disk) (image-current disk))
]
