-- What `serve` writes, and how it ends.
use Rattle.std.specs.Prelude.{◌≡◌, ◌⊎◌, ℕ, Bool, true, List, Option, ◌++◌, Result, codes, decimal}
use Rattle.{std.specs.Io.KnownBytes.Appends, war_types.specs.{Settings.settings_of, declared.settings.{RawSettings.RawSettings, SettingsFault.SettingsFault}}}
use Rattle.{koth_protocol.specs.Written.WritesPart, koth_files.specs.Trouble.IsOfHill, koth_keeping.specs.Seed.AreMade}
use Rattle.koth_commands.specs.{Answer.EndsGiven, Told.WritesSome, Trouble.Tells, Streams.Streams}
use Rattle.koth_commands.specs.declared.{status.Status.Status, trouble.Trouble.Trouble}

-- the line that names the port
abbrev pub listening_line : ℕ → List ℕ
listening_line port = codes "LISTENING " ++ decimal port ++ codes "\n"

-- the line of a port was written, or a part of one
abbrev pub Announces : Option (List ℕ) → Option (List ℕ) → Type 0
Announces old new = (port : ℕ) × Appends old new (listening_line port)

abbrev pub AnnouncesPart : Option (List ℕ) → Option (List ℕ) → Type 0
AnnouncesPart old new = (port : ℕ) × WritesPart old new (listening_line port)

-- how a service ends: after its line, or with a fault, and then a part of that line may stand on the output; the log
-- stands on standard error
pub record TellsServeFault (status : Status) (before after : Streams) : Type 0 where
  pub trouble : Trouble
  pub of_hill : IsOfHill trouble
  pub port : ℕ
  pub output : WritesPart before.output after.output (listening_line port)
  pub logged : Option (List ℕ)
  pub log : WritesSome before.errors logged
  pub told : Tells trouble status logged after.errors

abbrev pub EndsService : Status → Streams → Streams → Type 0
EndsService status before after =
    ((status ≡ Status.Done) × Announces before.output after.output × WritesSome before.errors after.errors) ⊎ TellsServeFault status before after

-- how `serve` ends under these settings for a hill that it creates: as a service, with their refusal, or out of memory
abbrev pub EndsMade : Result RawSettings SettingsFault → Status → Streams → Streams → Type 0
EndsMade settings status before after = EndsGiven (λ s. EndsService) settings status before after

-- How `serve` ends under the settings that are given, with a seed that is drawn in place of theirs or not. If it is to be
-- drawn, the source of random numbers may fail.
abbrev pub EndsServe : Bool → RawSettings → Status → Streams → Streams → Type 0
EndsServe drawn given status before after =
    ((settings : RawSettings) × AreMade drawn given settings × EndsMade (settings_of settings) status before after)
    ⊎ ((drawn ≡ true) × TellsServeFault status before after)
