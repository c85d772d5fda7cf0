-- What is told of a hill's file that can't be worked on.
use Rattle.std.specs.{Prelude.{◌≡◌, ◌⊎◌, ◌==◌, ℕ, Bool, true, false, if◌then◌else◌, List}, Borrow.Bor}
use Rattle.{hill_file.specs.declared.open_fault.OpenFault.OpenFault, hill_images.specs.declared.refusal.Refusal.Refusal}
use Rattle.koth_commands.specs.{Cause.error_reason, Trouble.no_memory, declared.cause.{Cause.Cause, Reason.Reason, Subject.Subject}}
use Rattle.koth_commands.specs.declared.trouble.{About.About, Fault.Fault, Trouble.Trouble}

-- whether a fault is that of settings
abbrev pub is_of_settings : Fault → Bool
is_of_settings (Fault.Settings fault) = true
is_of_settings Fault.TooSmall = false
is_of_settings Fault.Occupied = false
is_of_settings Fault.NotAHill = false
is_of_settings Fault.OldHill = false
is_of_settings Fault.Damaged = false
is_of_settings Fault.NoEntry = false
is_of_settings Fault.BadDefine = false
is_of_settings Fault.NoEqu = false
is_of_settings Fault.NoKind = false
is_of_settings Fault.Stream = false
is_of_settings Fault.Memory = false

-- a fault of the file at this path, and why
abbrev pub told_at : Bor (List ℕ) → Fault → Reason → Trouble
told_at path fault reason = record { fault = fault; about = About.Cause (record { subject = Subject.File path; reason = reason }) }

-- a store refused the hill in it
abbrev pub refused_at : Bor (List ℕ) → Refusal → Trouble
refused_at path Refusal.Disk = told_at path Fault.Stream Reason.Device
refused_at path Refusal.TooSmall = told_at path Fault.TooSmall Reason.TooShort
refused_at path Refusal.Occupied = told_at path Fault.Occupied Reason.NotEmpty
refused_at path Refusal.Memory = told_at path Fault.Memory Reason.Memory
refused_at path Refusal.NotAHill = told_at path Fault.NotAHill Reason.NoHill
refused_at path Refusal.Damaged = told_at path Fault.Damaged Reason.Damaged

-- it can't be worked on
abbrev pub unopened_at : Bor (List ℕ) → OpenFault → Trouble
unopened_at path OpenFault.Memory = no_memory
unopened_at path OpenFault.Locked = told_at path Fault.Stream Reason.Locked
unopened_at path OpenFault.Occupied = told_at path Fault.Occupied Reason.NotEmpty
unopened_at path (OpenFault.Failed kind) = told_at path Fault.Stream (error_reason kind)

-- no new file can be made there
abbrev pub not_made_at : Bor (List ℕ) → OpenFault → Trouble
not_made_at path OpenFault.Memory = no_memory
not_made_at path OpenFault.Locked = told_at path Fault.Stream Reason.Locked
not_made_at path OpenFault.Occupied = told_at path Fault.Occupied Reason.NameInUse
not_made_at path (OpenFault.Failed kind) = told_at path Fault.Stream (error_reason kind)

-- the warrior with this entry, on the hill in it, can't be read
abbrev pub damaged_at : Bor (List ℕ) → ℕ → Trouble
damaged_at path entry =
    record { fault = Fault.Damaged; about = About.Cause (record { subject = Subject.Warrior path entry; reason = Reason.Unreadable }) }

-- it holds a hill of the old format
abbrev pub old_hill_at : Bor (List ℕ) → Trouble
old_hill_at path = told_at path Fault.OldHill Reason.OldHill

-- it holds one of the new format
abbrev pub new_hill_at : Bor (List ℕ) → Trouble
new_hill_at path = told_at path Fault.NotAHill Reason.NewHill

-- it is no refusal of settings
abbrev pub IsOfHill : Trouble → Type 0
IsOfHill trouble = is_of_settings trouble.fault ≡ false

-- another program has the lock of a hill's file
abbrev pub IsLock : Trouble → Type 0
IsLock trouble = (cause : Cause) × (trouble.about ≡ About.Cause cause) × (cause.reason ≡ Reason.Locked)

-- the same to a submission: what can be done, at once, and after it waited for this number of seconds
abbrev pub locked_at : Bor (List ℕ) → ℕ → Trouble
locked_at path seconds = if seconds == 0 then told_at path Fault.Stream Reason.LockedNow else told_at path Fault.Stream Reason.LockedStill

-- a submission is never told of a lock without what can be done
abbrev pub TellsLock : Bor (List ℕ) → ℕ → Trouble → Type 0
TellsLock path seconds trouble = (trouble ≡ locked_at path seconds) ⊎ ¬ IsLock trouble
