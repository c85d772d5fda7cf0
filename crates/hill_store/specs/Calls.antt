-- What the calls of a store are in the life of its device.
use Rattle.std.specs.Prelude.{◌≡◌, ℕ, true, false, List, [], ◌∷◌, ◌++◌, None}
use Rattle.{war_types.specs.declared.settings.RawSettings.RawSettings, koth_hill.specs.{Hill.Hill, Kept.fought}, sector_disk.specs.{Facts.DeviceFacts, Disk.current, Image.{IsImage, started}}}
use Rattle.{hill_bytes.specs.{Layout.old_layout, declared.format.Format.Format}, hill_images.specs.{declared.refusal.Refusal.Refusal, Opening.IsNotOpened, Stands.{Stands, StandsIn}}}
use Rattle.hill_store.specs.{declared.reply.Reply.Reply, Seen.{Seen, IsStanding}, declared.migration.MigrateFault.MigrateFault, Opened.{IsCreated, IsMigrated, IsNotMigrated, IsOpened}}
use Rattle.hill_store.specs.{Runs.{IsSubmitted, Runs}, Holding.Holds, Lives.{Event, Lives, LivesIn}}

-- a submission by its reply: one that changed nothing is no event
abbrev pub events_of : List ℕ → Reply → List Event
events_of source (Reply.Placed entry rank score) = Event.Answered (source ∷ []) ∷ []
events_of source (Reply.Fell entry score) = Event.Answered (source ∷ []) ∷ []
events_of source (Reply.Refused fault) = Event.Answered (source ∷ []) ∷ []
events_of source Reply.Memory = []
events_of source Reply.Worn = []
events_of source Reply.Disk = Event.Unanswered source ∷ []
events_of source Reply.Reopen = []

-- submissions by their replies
abbrev pub events_in : List (List ℕ) → List Reply → List Event
events_in [] replied = []
events_in (source ∷ sources) [] = []
events_in (source ∷ sources) (reply ∷ rest) = events_of source reply ++ events_in sources rest

-- on a lawful device
pub record CallsAreEvents {D : Type 0} (facts : DeviceFacts D) : Type 0 where
  -- a life begins with a creation
  pub created : (old : D) (s : RawSettings) (store : Seen D) → facts.lawful old → IsCreated facts old s store
      → Holds (facts.size store.device) (facts.disk store.device) s [] None
  -- an opening is one event, refused or not; what is opened of a life's device keeps true results
  pub opened : (old : D) (store : Seen D) (hill : Hill) → facts.lawful old → IsOpened facts old store → store.hill ≡ fought hill
      → Lives (facts.size old) false (facts.disk old) (Event.Opened hill ∷ []) (facts.disk store.device)
  pub not_opened : (old new : D) (why : Refusal) → facts.lawful old → IsNotOpened facts old new why
      → Lives (facts.size old) false (facts.disk old) (Event.NotOpened ∷ []) (facts.disk new)
  -- a submission is one event, or none; a list of them is the events of each
  pub submitted : (old new : Seen D) (source : List ℕ) (reply : Reply) → facts.lawful old.device → IsStanding facts old → IsSubmitted facts old source reply new
      → Lives (facts.size old.device) true (facts.disk old.device) (events_of source reply) (facts.disk new.device)
  pub ran : (old new : Seen D) (sources : List (List ℕ)) (replied : List Reply) → facts.lawful old.device → IsStanding facts old → Runs facts old sources replied new
      → Lives (facts.size old.device) true (facts.disk old.device) (events_in sources replied) (facts.disk new.device)

-- a migration from a lawful device of the old format to another lawful one
pub record MigrationsAreEvents {O D : Type 0} (old_facts : DeviceFacts O) (facts : DeviceFacts D) : Type 0 where
  -- one that was answered is the move to the other device; what is moved of a life's device keeps true results
  pub migrated : (old after : O) (new : D) (store : Seen D) (hill : Hill) → old_facts.lawful old → facts.lawful new → IsMigrated old_facts facts old after new store → store.hill ≡ fought hill
      → LivesIn Format.Old (old_facts.size old) false (old_facts.disk old) (Event.Moved (facts.size store.device) (facts.disk store.device) hill ∷ []) (facts.disk store.device)
  -- one that was refused is an opening that was refused
  pub not_migrated : (old old_after : O) (new new_after : D) (fault : MigrateFault) → old_facts.lawful old → IsNotMigrated old_facts facts old old_after new new_after fault
      → LivesIn Format.Old (old_facts.size old) false (old_facts.disk old) (Event.NotOpened ∷ []) (old_facts.disk old_after)
  -- if it was stopped, and an image of the other device stands for the hill, the life goes on with that
  pub stopped : (old old_after : O) (new new_after : D) (fault : MigrateFault) (image : ℕ → List ℕ) (hill : Hill) → old_facts.lawful old → IsNotMigrated old_facts facts old old_after new new_after fault
      → StandsIn old_layout (old_facts.size old) (current (old_facts.disk old)) hill → IsImage (facts.disk new_after) image → Stands (facts.size new_after) image hill
      → LivesIn Format.Old (old_facts.size old) false (old_facts.disk old) (Event.MovedAtStop (facts.size new_after) image hill ∷ []) (started image)
