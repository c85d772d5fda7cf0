-- How `session` ends.
use Rattle.std.specs.{Prelude.{◌≡◌, ◌⊎◌, ℕ, List, Option, None, Some, codes}, Io.KnownBytes.Keeps}
use Rattle.koth_session.specs.declared.sessions.SessionEnd.{SessionEnd}
use Rattle.koth_commands.specs.{Cause.reason_told, Name.shown_name, Streams.Streams, Told.TellsWord, Trouble.{Tells, about_told, no_memory}}
use Rattle.koth_commands.specs.declared.{cause.Reason.Reason, status.Status.Status, trouble.{Fault.Fault, Trouble.Trouble}}
use Rattle.koth_server.specs.Settled.{TellsNoHill}

-- what has this name failed, which was told on standard error
abbrev pub TellsFailed : List ℕ → Status → Option (List ℕ) → Option (List ℕ) → Type 0
TellsFailed name status old new =
    (trouble : Trouble) × (trouble.fault ≡ Fault.Stream)
    × (about_told trouble.about ≡ Some (reason_told name Reason.Device)) × Tells trouble status old new

-- How the program ends at each end of a session on the hill in this file, and what it tells of it on standard error:
-- nothing if all commands that came were answered. Without an end, a source may have spent its steps.
abbrev pub TellsEnd : List ℕ → Option SessionEnd → Status → Option (List ℕ) → Option (List ℕ) → Type 0
TellsEnd path (Some SessionEnd.Quit) status old new = (status ≡ Status.Done) × Keeps old new
TellsEnd path (Some SessionEnd.EndOfInput) status old new = (status ≡ Status.Done) × Keeps old new
TellsEnd path (Some SessionEnd.ReadFault) status old new =
    TellsFailed (shown_name (codes "standard input")) status old new
TellsEnd path (Some SessionEnd.WriteFault) status old new = TellsFailed (codes "standard output") status old new
TellsEnd path (Some SessionEnd.Limit) status old new = (status ≡ Status.Refused) × TellsWord (codes "LIMIT") old new
TellsEnd path (Some SessionEnd.StoreFailed) status old new = TellsFailed (shown_name path) status old new
TellsEnd path (Some SessionEnd.Memory) status old new = Tells no_memory status old new
TellsEnd path None status old new = (status ≡ Status.Refused) × TellsWord (codes "STEPS") old new

-- how it ends on the hill that was opened in this file: as its session ended
abbrev pub EndsOnHill : List ℕ → Status → Streams → Streams → Type 0
EndsOnHill path status before after =
    (end : Option SessionEnd) × TellsEnd path end status before.errors after.errors

-- the same, or the hill could not be opened
abbrev pub EndsOnFile : List ℕ → Status → Streams → Streams → Type 0
EndsOnFile path status before after = EndsOnHill path status before after ⊎ TellsNoHill status before after
