-- What `migrate` answers.
use Rattle.std.specs.{Prelude.{◌≡◌, ◌⊎◌, ℕ, List, Ok, Err, codes}, Borrow.Bor}
use Rattle.{sector_disk.specs.Facts.DeviceFacts, hill_store.specs.{Opened.{IsMigrated, IsNotMigrated}, Seen.Seen, declared.migration.{MigrateFault.MigrateFault, MigrateSide.MigrateSide}}}
use Rattle.{koth_words.specs.declared.requests.Migration.Migration, koth_commands.specs.{Trouble.no_memory, declared.trouble.Trouble.Trouble}}
use Rattle.{koth_files.specs.Trouble.refused_at, koth_keeping.specs.Answers.{Outcome, SaysLine}}

abbrev pub migrated_line : List ℕ
migrated_line = codes "MIGRATED\n"

-- the hill on a device of the old format was moved to another device, in the new one
pub record Migrates {D : Type 0} (facts : DeviceFacts D) (old new : D) : Type 0 where
  pub after : D
  pub store : Seen D
  pub migrated : IsMigrated facts facts old after new store

-- the file of a side of a move
abbrev pub file_of : Migration → MigrateSide → Bor (List ℕ)
file_of files MigrateSide.Old = files.old
file_of files MigrateSide.New = files.new

-- the hill was not moved, and this is told
pub record RefusesToMigrate {D : Type 0} (facts : DeviceFacts D) (files : Migration) (old new : D) (trouble : Trouble) : Type 0 where
  pub old_after : D
  pub new_after : D
  pub why : MigrateFault
  pub refused : IsNotMigrated facts facts old old_after new new_after why
  pub told : trouble ≡ refused_at (file_of files why.side) why.refusal

-- the answer to moving a hill from one device to another: the line that says so only if it was moved
abbrev pub MigratesTo : {D : Type 0} → DeviceFacts D → Migration → D → D → Outcome → Type 0
MigratesTo facts files old new (Ok answer) = Migrates facts old new × SaysLine migrated_line answer
MigratesTo facts files old new (Err trouble) = (trouble ≡ no_memory) ⊎ RefusesToMigrate facts files old new trouble
