-- The life of a device that holds a hill: what happens to it, one thing after another, and what is to be told of that.
use Rattle.std.specs.Prelude.{◌≡◌, ◌⊎◌, ℕ, Bool, true, false, List, [], ◌∷◌, ◌++◌, Option, Some, None}
use Rattle.{war_types.specs.declared.settings.RawSettings.RawSettings, koth_hill.specs.Hill.Hill, sector_disk.specs.{Disk.{Disk, current, synced}, Image.{IsImage, Images, started}}}
use Rattle.{sector_disk.specs.Changes.Begun, hill_bytes.specs.{declared.format.Format.Format, Layout.{Layout, layout_of, new_layout}}, hill_images.specs.Stands.{Stands, StandsIn}}
use Rattle.hill_store.specs.{Earned.{earned, step_source, steps}, Holding.{HoldsIn, AreDecided}}

-- What happens to a device: an opening is refused, or gives a hill; submissions are answered; the device fails in one;
-- the store on it is closed; a stop leaves an image, and the device starts from that. A source is its bytes, an image
-- what each sector holds. A hill moves from a device of the old format to another one, with this number of sectors, and
-- the life goes on with that one. It moves by a migration that was answered, or by one that was not, but left an image
-- of the other device that stands for the hill. A refused migration is a refused opening.
pub data Event : Type 0 where
  NotOpened : Event
  Opened : Hill → Event
  Answered : List (List ℕ) → Event
  Unanswered : List ℕ → Event
  Closed : Event
  Stopped : (ℕ → List ℕ) → Event
  Moved : ℕ → Disk → Hill → Event
  MovedAtStop : ℕ → (ℕ → List ℕ) → Hill → Event

-- if every image stood for a hill, every image stands for that hill after these sources
abbrev pub MovesOnIn : Layout → ℕ → List (List ℕ) → Disk → Disk → Type 0
MovesOnIn layout size sources old new = (hill : Hill) → Images old (λ image. StandsIn layout size image hill) → Images new (λ image. StandsIn layout size image (steps hill sources))

-- if every image stood for a hill, each stands for that hill, or for that hill after this source
abbrev pub MayMoveOnIn : Layout → ℕ → List ℕ → Disk → Disk → Type 0
MayMoveOnIn layout size source old new =
    (hill : Hill) → Images old (λ image. StandsIn layout size image hill) → Images new (λ image. StandsIn layout size image hill ⊎ StandsIn layout size image (step_source hill source))

-- These events happened to a device of this format and number of sectors. Submissions come only while a store is open
-- that has answered no `Disk`.
abbrev pub LivesIn : Format → ℕ → Bool → Disk → List Event → Disk → Type 0
LivesIn format size is_open old [] new = new ≡ old
LivesIn format size is_open old (Event.NotOpened ∷ events) new = (mid : Disk) × Begun (synced ∷ []) old mid × LivesIn format size false mid events new
LivesIn format size is_open old (Event.Opened hill ∷ events) new = StandsIn (layout_of format) size (current old) hill × LivesIn format size true (synced old) events new
LivesIn format size is_open old (Event.Answered sources ∷ events) new =
    (mid : Disk) × (is_open ≡ true) × MovesOnIn (layout_of format) size sources old mid × LivesIn format size true mid events new
LivesIn format size is_open old (Event.Unanswered source ∷ events) new =
    (mid : Disk) × (is_open ≡ true) × MayMoveOnIn (layout_of format) size source old mid × LivesIn format size false mid events new
LivesIn format size is_open old (Event.Closed ∷ events) new = LivesIn format size false old events new
LivesIn format size is_open old (Event.Stopped image ∷ events) new = IsImage old image × LivesIn format size false (started image) events new
LivesIn format size is_open old (Event.Moved moved_size moved hill ∷ events) new =
    (format ≡ Format.Old) × StandsIn (layout_of format) size (current old) hill × Images moved (λ image. Stands moved_size image hill)
    × LivesIn Format.New moved_size true moved events new
LivesIn format size is_open old (Event.MovedAtStop moved_size image hill ∷ events) new =
    (format ≡ Format.Old) × StandsIn (layout_of format) size (current old) hill × Stands moved_size image hill
    × LivesIn Format.New moved_size false (started image) events new

-- all of these in the new format
abbrev pub MovesOn : ℕ → List (List ℕ) → Disk → Disk → Type 0
MovesOn size sources old new = MovesOnIn new_layout size sources old new

abbrev pub MayMoveOn : ℕ → List ℕ → Disk → Disk → Type 0
MayMoveOn size source old new = MayMoveOnIn new_layout size source old new

abbrev pub Lives : ℕ → Bool → Disk → List Event → Disk → Type 0
Lives size is_open old events new = LivesIn Format.New size is_open old events new

-- the format and the number of sectors of the device after these events
abbrev pub format_after : Format → List Event → Format
format_after format [] = format
format_after format (Event.NotOpened ∷ events) = format_after format events
format_after format (Event.Opened hill ∷ events) = format_after format events
format_after format (Event.Answered sources ∷ events) = format_after format events
format_after format (Event.Unanswered source ∷ events) = format_after format events
format_after format (Event.Closed ∷ events) = format_after format events
format_after format (Event.Stopped image ∷ events) = format_after format events
format_after format (Event.Moved size disk hill ∷ events) = format_after Format.New events
format_after format (Event.MovedAtStop size image hill ∷ events) = format_after Format.New events

abbrev pub size_after : ℕ → List Event → ℕ
size_after size [] = size
size_after size (Event.NotOpened ∷ events) = size_after size events
size_after size (Event.Opened hill ∷ events) = size_after size events
size_after size (Event.Answered sources ∷ events) = size_after size events
size_after size (Event.Unanswered source ∷ events) = size_after size events
size_after size (Event.Closed ∷ events) = size_after size events
size_after size (Event.Stopped image ∷ events) = size_after size events
size_after size (Event.Moved moved_size disk hill ∷ events) = size_after moved_size events
size_after size (Event.MovedAtStop moved_size image hill ∷ events) = size_after moved_size events

-- The record of a life at whose beginning each image stands for what these sources earn, or these and one more: the
-- sources that count in the end, and the one more that may. A source that was answered counts. The next opening or move
-- decides on one that was not.
abbrev pub IsRecord : RawSettings → List (List ℕ) → Option (List ℕ) → List Event → List (List ℕ) → Option (List ℕ) → Type 0
IsRecord s sources more [] found last = (found ≡ sources) × (last ≡ more)
IsRecord s sources more (Event.NotOpened ∷ events) found last = IsRecord s sources more events found last
IsRecord s sources more (Event.Opened hill ∷ events) found last =
    (decided : List (List ℕ)) × AreDecided sources more decided × (hill ≡ earned s decided) × IsRecord s decided None events found last
IsRecord s sources more (Event.Answered xs ∷ events) found last = (more ≡ None) × IsRecord s (sources ++ xs) None events found last
IsRecord s sources more (Event.Unanswered x ∷ events) found last = (more ≡ None) × IsRecord s sources (Some x) events found last
IsRecord s sources more (Event.Closed ∷ events) found last = IsRecord s sources more events found last
IsRecord s sources more (Event.Stopped image ∷ events) found last = IsRecord s sources more events found last
IsRecord s sources more (Event.Moved size disk hill ∷ events) found last =
    (decided : List (List ℕ)) × AreDecided sources more decided × (hill ≡ earned s decided) × IsRecord s decided None events found last
IsRecord s sources more (Event.MovedAtStop size image hill ∷ events) found last =
    (decided : List (List ℕ)) × AreDecided sources more decided × (hill ≡ earned s decided) × IsRecord s decided None events found last

-- a record of the life, and the device holds what it says
pub record HasRecord (format : Format) (size : ℕ) (s : RawSettings) (sources : List (List ℕ)) (more : Option (List ℕ)) (events : List Event) (new : Disk) : Type 0 where
  pub found : List (List ℕ)
  pub last : Option (List ℕ)
  pub tells : IsRecord s sources more events found last
  pub holds : HoldsIn (layout_of (format_after format events)) (size_after size events) new s found last

pub record LawsOfLives : Type 0 where
  -- a device that starts from an image of one that holds a list holds that list
  pub started_holds : (format : Format) (size : ℕ) (disk : Disk) (s : RawSettings) (sources : List (List ℕ)) (more : Option (List ℕ)) (image : ℕ → List ℕ)
      → IsImage disk image → HoldsIn (layout_of format) size disk s sources more → HoldsIn (layout_of format) size (started image) s sources more
  -- of each life that begins with a hill without warriors there is a record, in whichever format it begins
  pub each_life : (format : Format) (size : ℕ) (s : RawSettings) (old new : Disk) (events : List Event)
      → HoldsIn (layout_of format) size old s [] None → LivesIn format size true old events new → HasRecord format size s [] None events new
