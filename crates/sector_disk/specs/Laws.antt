-- Laws of images, for every disk.
use Rattle.std.specs.Prelude.{◌≡◌, ◌⊎◌, ℕ, List}
use Rattle.sector_disk.specs.{Disk.{Disk, current, wrote, synced, IsSettled}, Image.{IsImage, put, started}}

-- the image has this content in this sector, and is in the others as some image of the disk
abbrev pub HasPut : ℕ → List ℕ → Disk → (ℕ → List ℕ) → Type 0
HasPut n content disk image = (before : ℕ → List ℕ) × IsImage disk before × (image ≡ put n content before)

pub record LawsOfImages : Type 0 where
  -- what a read gives, sector by sector, is an image
  pub current_is_one : (disk : Disk) → IsImage disk (current disk)
  -- the images before a write are images after it
  pub write_keeps : (disk : Disk) (n : ℕ) (content : List ℕ) (image : ℕ → List ℕ) → IsImage disk image → IsImage (wrote n content disk) image
  -- so are those images with the content in its sector
  pub write_adds : (disk : Disk) (n : ℕ) (content : List ℕ) (image : ℕ → List ℕ) → IsImage disk image → IsImage (wrote n content disk) (put n content image)
  -- and there are no others
  pub write_adds_no_other : (disk : Disk) (n : ℕ) (content : List ℕ) (image : ℕ → List ℕ) → IsImage (wrote n content disk) image → IsImage disk image ⊎ HasPut n content disk image
  -- a sync leaves one image, and so does a device to which nothing was written since
  pub sync_leaves_one : (disk : Disk) (image : ℕ → List ℕ) → IsImage (synced disk) image → image ≡ current disk
  pub settled_has_one : (disk : Disk) (image : ℕ → List ℕ) → IsSettled disk → IsImage disk image → image ≡ current disk
  -- a read gives the last content written, from other sectors what it gave before, and after a sync the same
  pub read_after_write : (disk : Disk) (n : ℕ) (content : List ℕ) → current (wrote n content disk) ≡ put n content (current disk)
  pub read_after_sync : (disk : Disk) → current (synced disk) ≡ current disk
  -- a device started from an image holds it
  pub read_after_start : (image : ℕ → List ℕ) → current (started image) ≡ image
