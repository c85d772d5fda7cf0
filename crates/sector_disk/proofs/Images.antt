-- What is known of every image, through reads, writes and syncs: the images after a write are the images before it and those with the
-- content put in, and after a sync there is one.
use Rattle.std.proofs.Common.{◌≡◌, ℕ, ◌⊎◌, inl, inr, List, [], ◌∷◌, ◌++◌, refl, sym, subst, ap, ◌∙◌, ◌≢◌}
use Rattle.sector_disk.specs.{Disk.{Disk, last_of, current, wrote, synced, IsSettled}, Image.{MayHold, IsImage, Images, put, started}, Laws.{HasPut, LawsOfImages}}
use Rattle.sector_disk.proofs.{Places.{at_same, at_other, by_place}, Contents.{last_of-append, may_hold_last, may_hold_more, may_hold_written, may_hold_no_other}}

pub same_images : (image other : ℕ → List ℕ) → ((n : ℕ) → image n ≡ other n) → image ≡ other
same_images image other same = λ i. λ n. same n i

pub same_disks : (disk other : Disk) → ((n : ℕ) → disk.stable n ≡ other.stable n) → ((n : ℕ) → disk.written n ≡ other.written n) → disk ≡ other
same_disks disk other stable written = λ i. record { stable = λ n. stable n i; written = λ n. written n i }

pub written-same : (disk : Disk) (n : ℕ) (content : List ℕ) → (wrote n content disk).written n ≡ disk.written n ++ content ∷ []
written-same disk n content = at_same n n _ _ refl

pub written-other : (disk : Disk) (n k : ℕ) (content : List ℕ) → k ≢ n → (wrote n content disk).written k ≡ disk.written k
written-other disk n k content other = at_other n k _ _ other

pub put-same : (image : ℕ → List ℕ) (n : ℕ) (content : List ℕ) → put n content image n ≡ content
put-same image n content = at_same n n _ _ refl

pub put-other : (image : ℕ → List ℕ) (n k : ℕ) (content : List ℕ) → k ≢ n → put n content image k ≡ image k
put-other image n k content other = at_other n k _ _ other

pub image-current : (disk : Disk) → IsImage disk (current disk)
image-current disk n = may_hold_last (disk.stable n) (disk.written n)

-- the images before a write are images after it
pub image-kept : (disk : Disk) (n : ℕ) (content : List ℕ) (image : ℕ → List ℕ) → IsImage disk image → IsImage (wrote n content disk) image
image-kept disk n content image is k =
    by_place (λ m. MayHold (disk.stable m) ((wrote n content disk).written m) (image m)) n k
    (rw (written-same disk n content) (may_hold_more _ _ content _ (is n)))
    (λ other. rw (written-other disk n k content other) (is k))

-- so are those with the content in its sector
pub image-put : (disk : Disk) (n : ℕ) (content : List ℕ) (image : ℕ → List ℕ) → IsImage disk image → IsImage (wrote n content disk) (put n content image)
image-put disk n content image is k =
    by_place (λ m. MayHold (disk.stable m) ((wrote n content disk).written m) (put n content image m)) n k
    (rw (written-same disk n content) (rw (put-same image n content) (may_hold_written _ _ content)))
    (λ other. rw (written-other disk n k content other) (rw (put-other image n k content other) (is k)))

-- the image without the content in its sector, which then holds what a read gave
abbrev without : ℕ → Disk → (ℕ → List ℕ) → ℕ → List ℕ
without n disk image = put n (current disk n) image

image-without : (disk : Disk) (n : ℕ) (content : List ℕ) (image : ℕ → List ℕ) → IsImage (wrote n content disk) image → IsImage disk (without n disk image)
image-without disk n content image is k =
    by_place (λ m. MayHold (disk.stable m) (disk.written m) (without n disk image m)) n k
    (rw (put-same image n (current disk n)) (may_hold_last _ _))
    (λ other. rw (put-other image n k (current disk n) other) (rw (sym (written-other disk n k content other)) (is k)))

put-without : (disk : Disk) (n : ℕ) (content : List ℕ) (image : ℕ → List ℕ) → image n ≡ content → image ≡ put n content (without n disk image)
put-without disk n content image is = same_images _ _ (λ k.
    by_place (λ m. image m ≡ put n content (without n disk image) m) n k
    (is ∙ sym (put-same (without n disk image) n content))
    (λ other. sym (put-other (without n disk image) n k content other ∙ put-other image n k (current disk n) other)))

-- and there are no others
pub image-wrote : (disk : Disk) (n : ℕ) (content : List ℕ) (image : ℕ → List ℕ) → IsImage (wrote n content disk) image → IsImage disk image ⊎ HasPut n content disk image
image-wrote disk n content image is =
    let here : MayHold (disk.stable n) (disk.written n ++ content ∷ []) (image n) = rw (written-same disk n content) at (is n)
    in elim (may_hold_no_other _ _ content _ here) [
      | inl before ↦ inl (λ k. by_place (λ m. MayHold (disk.stable m) (disk.written m) (image m)) n k before
          (λ other. rw (sym (written-other disk n k content other)) (is k)))
      | inr put_in ↦ inr (without n disk image, image-without disk n content image is, put-without disk n content image put_in)
    ]

pub settled-synced : (disk : Disk) → IsSettled (synced disk)
settled-synced disk n = refl

pub image-settled : (disk : Disk) (image : ℕ → List ℕ) → IsSettled disk → IsImage disk image → image ≡ current disk
image-settled disk image settled is = same_images _ _ (λ n.
    let held : MayHold (disk.stable n) [] (image n) = rw (settled n) at (is n)
    in held ∙ sym (ap (last_of (disk.stable n)) (settled n)))

-- a sync leaves one image
pub image-synced : (disk : Disk) (image : ℕ → List ℕ) → IsImage (synced disk) image → image ≡ current disk
image-synced disk image is = same_images _ _ is

pub current-wrote : (disk : Disk) (n : ℕ) (content : List ℕ) → current (wrote n content disk) ≡ put n content (current disk)
current-wrote disk n content = same_images _ _ (λ k.
    by_place (λ m. current (wrote n content disk) m ≡ put n content (current disk) m) n k
    (ap (last_of (disk.stable n)) (written-same disk n content) ∙ last_of-append (disk.stable n) (disk.written n) content ∙ sym (put-same (current disk) n content))
    (λ other. ap (last_of (disk.stable k)) (written-other disk n k content other) ∙ sym (put-other (current disk) n k content other)))

pub current-synced : (disk : Disk) → current (synced disk) ≡ current disk
current-synced disk = refl

pub current-started : (image : ℕ → List ℕ) → current (started image) ≡ image
current-started image = refl

-- what every image has, the content that a read gives has
pub images_read : (disk : Disk) (P : (ℕ → List ℕ) → Type 0) → Images disk P → P (current disk)
images_read disk P each = each (current disk) (image-current disk)

-- what every image has as it is and with the content in it, every image has after the write
pub images_write : (disk : Disk) (n : ℕ) (content : List ℕ) (P : (ℕ → List ℕ) → Type 0) → Images disk P → Images disk (λ image. P (put n content image)) → Images (wrote n content disk) P
images_write disk n content P before written image is = elim (image-wrote disk n content image is) [
  | inl old ↦ before image old
  | inr new ↦ subst P (sym new.2) (written new.0 new.1)
]

-- what every image has after a write, every image had before it
pub images_before_write : (disk : Disk) (n : ℕ) (content : List ℕ) (P : (ℕ → List ℕ) → Type 0) → Images (wrote n content disk) P → Images disk P
images_before_write disk n content P each image is = each image (image-kept disk n content image is)

pub images_settled : (disk : Disk) (P : (ℕ → List ℕ) → Type 0) → IsSettled disk → P (current disk) → Images disk P
images_settled disk P settled holds image is = subst P (sym (image-settled disk image settled is)) holds

pub images_sync : (disk : Disk) (P : (ℕ → List ℕ) → Type 0) → P (current disk) → Images (synced disk) P
images_sync disk P holds image is = subst P (sym (image-synced disk image is)) holds

pub laws : LawsOfImages
laws = record {
  current_is_one = image-current;
  write_keeps = image-kept;
  write_adds = image-put;
  write_adds_no_other = image-wrote;
  sync_leaves_one = image-synced;
  settled_has_one = image-settled;
  read_after_write = current-wrote;
  read_after_sync = current-synced;
  read_after_start = current-started;
}
