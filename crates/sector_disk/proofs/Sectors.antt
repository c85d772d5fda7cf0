-- The sectors of the device in memory: what a loop over them leaves is what the disk says.
use Rattle.std.proofs.Common.{◌≡◌, ℕ, ◌+◌, ◌-◌, ◌<◌, ◌≤◌, List, [], ◌∷◌, ◌++◌, length, take, drop, map, set, replicate, get_or, subst, refl, sym, ap, ◌∙◌, inl, inr, arith, Option, None}
use Rattle.{std.proofs.Common.{Some, Bor}, std.specs.{Option.{unwrap_or, option_copied}, List.slice_get}, std.proofs.lemmas.Bool.cases_lt}
use Rattle.std.proofs.lemmas.List.{get_or_past, get_or_push, get_or_append_left, length_push, replicate_more, take_all, drop_all, take-append-le, append-nil, length-map}
use Rattle.{std.proofs.{lemmas.List.Edits.map_over_more, Math.ListN.get_or-map, Math.Seq.take-nil}, sector_disk.specs.{Disk.{Disk, last_of, synced}, Image.IsImage}}
use Rattle.{sector_disk.specs.Memory.{SectorState, sector_of, nothing, disk_of, chosen, chosen_image, stopped_at}, sector_disk.proofs.{Images.same_disks, Contents.may_hold_chosen}}

pub now_or : {X : Type 0} (found : Option (Bor X)) (default : Bor X) → (unwrap_or found default).now ≡ unwrap_or (option_copied found) default.now
now_or None default = refl
now_or (Some x) default = refl

last_at : (stable first : List ℕ) (contents : List (List ℕ)) → unwrap_or (slice_get (first ∷ contents) (length contents)) stable ≡ last_of first contents
last_at stable first [] = refl
last_at stable first (second ∷ contents) = last_at stable second contents

pub last_of-get : (stable : List ℕ) (contents : List (List ℕ)) → unwrap_or (slice_get contents (length contents - 1)) stable ≡ last_of stable contents
last_of-get stable [] = refl
last_of-get stable (first ∷ contents) =
    let same : length (first ∷ contents) - 1 ≡ length contents = omega arith
    in rw same (last_at stable first contents)

abbrev pub settled_sector : SectorState → SectorState
settled_sector sector = sector_of (last_of sector.stable sector.written) []

-- when each sector has made its last content stable, the disk is synced
pub disk-settled : (sectors : List SectorState) → disk_of (map settled_sector sectors) ≡ synced (disk_of sectors)
disk-settled sectors = same_disks _ _
    (λ n. ap (λ (s : SectorState). s.stable) (get_or-map settled_sector sectors n nothing))
    (λ n. ap (λ (s : SectorState). s.written) (get_or-map settled_sector sectors n nothing))

pub settled_more : (sectors now : List SectorState) (n : ℕ) (sector settled : SectorState) → n < length sectors → now ≡ map settled_sector (take n sectors) ++ drop n sectors → sector ≡ get_or now n sector → settled ≡ settled_sector (get_or now n sector) → set now n settled ≡ map settled_sector (take (n + 1) sectors) ++ drop (n + 1) sectors
settled_more sectors now n sector settled within are here is =
    rw (is ∙ ap settled_sector (sym here)) (map_over_more settled_sector sectors now n sector within are here)

-- after the last of them, the vector has these sectors and no others
pub settled_all : (sectors now rest : List SectorState) (n count : ℕ) → length sectors ≤ n → length sectors ≡ count → now ≡ map settled_sector (take n sectors) ++ drop n sectors → disk_of (take count (now ++ rest)) ≡ synced (disk_of sectors)
settled_all sectors now rest n count past is_count are = ap disk_of those ∙ disk-settled sectors
  where
    whole : now ≡ map settled_sector sectors
    whole = are ∙ ap (λ front. map settled_sector front ++ drop n sectors) (take_all n sectors past)
        ∙ ap (λ back. map settled_sector sectors ++ back) (drop_all n sectors past) ∙ append-nil (map settled_sector sectors)

    fits : length (map settled_sector sectors) ≡ count
    fits = length-map sectors settled_sector ∙ is_count

    those : take count (now ++ rest) ≡ map settled_sector sectors
    those = rw whole (take-append-le count (map settled_sector sectors) rest (omega (arith, fits)) ∙ take_all count (map settled_sector sectors) (omega (arith, fits)))

-- one more blank sector
pub blank_more : (n : ℕ) (sectors now : List SectorState) (sector blank : SectorState) → sectors ≡ replicate n blank → sector ≡ blank → now ≡ sectors ++ sector ∷ [] → now ≡ replicate (n + 1) blank
blank_more n sectors now sector blank are is pushed =
    pushed ∙ ap (λ front. front ++ sector ∷ []) are ∙ ap (λ last. replicate n blank ++ last ∷ []) is ∙ replicate_more n blank

abbrev pub chosen_sector : List ℕ → List SectorState → ℕ → SectorState
chosen_sector choice sectors n = sector_of (chosen (get_or sectors n nothing).stable (get_or sectors n nothing).written (get_or choice n 0)) []

-- the first sectors of the stopped device, as many as have been made
pub record AreStopped (choice : List ℕ) (sectors stopped : List SectorState) (n : ℕ) : Type 0 where
  pub count : length stopped ≡ n
  pub each : (k : ℕ) → k < n → get_or stopped k nothing ≡ chosen_sector choice sectors k

pub stopped_none : (choice : List ℕ) (sectors : List SectorState) → AreStopped choice sectors [] 0
stopped_none choice sectors = record { count = refl; each = λ k below. absurd (omega arith) }

pub stopped_more : (choice : List ℕ) (sectors stopped : List SectorState) (n : ℕ) (sector : SectorState) → AreStopped choice sectors stopped n → sector ≡ chosen_sector choice sectors n → AreStopped choice sectors (stopped ++ sector ∷ []) (n + 1)
stopped_more choice sectors stopped n sector are is = record {
  count = length_push stopped sector ∙ ap (λ m. m + 1) are.count;
  each = λ k below. elim (cases_lt k n) [
    | inl before ↦ get_or_append_left stopped (sector ∷ []) nothing k (omega (arith, before, are.count)) ∙ are.each k before
    | inr past ↦
        let same : k ≡ n = omega (arith, past, below)
        in get_or_push stopped sector nothing k (are.count ∙ sym same) ∙ is ∙ ap (chosen_sector choice sectors) (sym same)
  ];
}

pub disk-stopped : (choice : List ℕ) (sectors stopped : List SectorState) (n : ℕ) → AreStopped choice sectors stopped n → length sectors ≡ n → disk_of stopped ≡ stopped_at choice (disk_of sectors)
disk-stopped choice sectors stopped n are all =
    same_disks _ _ (λ k. ap (λ (s : SectorState). s.stable) (at_place k)) (λ k. ap (λ (s : SectorState). s.written) (at_place k))
  where
    at_place : (k : ℕ) → get_or stopped k nothing ≡ chosen_sector choice sectors k
    at_place k = elim (cases_lt k n) [
      | inl within ↦ are.each k within
      | inr past ↦ get_or_past stopped k nothing (rw are.count past)
          ∙ sym (rw (get_or_past sectors k nothing (rw all past)) (ap (λ contents. sector_of (last_of [] contents) []) (take-nil (get_or choice k 0))))
    ]

-- what the numbers name is an image
pub image-chosen : (choice : List ℕ) (disk : Disk) → IsImage disk (chosen_image choice disk)
image-chosen choice disk n = may_hold_chosen (disk.stable n) (disk.written n) (get_or choice n 0)

pub image-stopped : (choice : List ℕ) (sectors stopped : List SectorState) (n : ℕ) → AreStopped choice sectors stopped n → length sectors ≡ n → IsImage (disk_of sectors) (disk_of stopped).stable
image-stopped choice sectors stopped n are all =
    subst (λ (disk : Disk). IsImage (disk_of sectors) disk.stable) (sym (disk-stopped choice sectors stopped n are all)) (image-chosen choice (disk_of sectors))
