-- What is told of a command that was not carried out, and how the program ends.
use Rattle.std.specs.Prelude.{◌≡◌, ◌⊎◌, ℕ, Option, None, Some, List, codes}
use Rattle.war_types.specs.declared.settings.SettingsFault.{SettingsFault}
use Rattle.koth_commands.specs.{Cause.cause_told, Told.{TellsAlone, TellsCause, TellsWord}, declared.status.Status.Status}
use Rattle.koth_commands.specs.declared.trouble.{About.About, Fault.Fault, Trouble.Trouble}

-- the word of settings that are refused: the first field that is out of its range
abbrev pub settings_word : SettingsFault → List ℕ
settings_word SettingsFault.Core = codes "BadSettings Core"
settings_word SettingsFault.Cycles = codes "BadSettings Cycles"
settings_word SettingsFault.Processes = codes "BadSettings Processes"
settings_word SettingsFault.Length = codes "BadSettings Length"
settings_word SettingsFault.Distance = codes "BadSettings Distance"
settings_word SettingsFault.Rounds = codes "BadSettings Rounds"
settings_word SettingsFault.Seed = codes "BadSettings Seed"
settings_word SettingsFault.Capacity = codes "BadSettings Capacity"
settings_word SettingsFault.ReadLimit = codes "BadSettings ReadLimit"
settings_word SettingsFault.WriteLimit = codes "BadSettings WriteLimit"

-- the word of a fault, which programs know it by
abbrev pub fault_word : Fault → List ℕ
fault_word (Fault.Settings fault) = settings_word fault
fault_word Fault.TooSmall = codes "TooSmall"
fault_word Fault.Occupied = codes "Occupied"
fault_word Fault.NotAHill = codes "NotAHill"
fault_word Fault.OldHill = codes "NotAHill"
fault_word Fault.Damaged = codes "Damaged"
fault_word Fault.NoEntry = codes "NoEntry"
fault_word Fault.BadDefine = codes "BadDefine"
fault_word Fault.NoEqu = codes "NoEqu"
fault_word Fault.NoKind = codes "NoKind"
fault_word Fault.Stream = codes "DISK"
fault_word Fault.Memory = codes "MEMORY"

-- how the program ends with it
abbrev pub fault_status : Fault → Status
fault_status (Fault.Settings fault) = Status.Refused
fault_status Fault.TooSmall = Status.Refused
fault_status Fault.Occupied = Status.Refused
fault_status Fault.NotAHill = Status.Refused
fault_status Fault.OldHill = Status.Refused
fault_status Fault.Damaged = Status.Refused
fault_status Fault.NoEntry = Status.Refused
fault_status Fault.BadDefine = Status.Refused
fault_status Fault.NoEqu = Status.Refused
fault_status Fault.NoKind = Status.Refused
fault_status Fault.Stream = Status.StreamFault
fault_status Fault.Memory = Status.NoMemory

-- the line after the word, if it says what failed and why
abbrev pub about_told : About → Option (List ℕ)
about_told About.Nothing = None
about_told (About.Cause cause) = Some (cause_told cause)
about_told (About.Given given) = None
about_told (About.Round rounds round) = None
about_told (About.Definition words) = None
about_told (About.Kind name) = None

-- the word was written with what it is about: alone, with what failed and why if memory sufficed for that, or with some
-- text, as the range of a setting
abbrev pub TellsAbout : List ℕ → About → Option (List ℕ) → Option (List ℕ) → Type 0
TellsAbout word About.Nothing old new = TellsAlone word old new
TellsAbout word (About.Cause cause) old new = TellsCause word (Some cause) old new
TellsAbout word (About.Given given) old new = TellsWord word old new
TellsAbout word (About.Round rounds round) old new = TellsWord word old new
TellsAbout word (About.Definition words) old new = TellsWord word old new
TellsAbout word (About.Kind name) old new = TellsWord word old new

-- the trouble was told on standard error and is how the program ends, by what that held before and after
pub record Tells (trouble : Trouble) (status : Status) (old new : Option (List ℕ)) : Type 0 where
  pub ends : status ≡ fault_status trouble.fault
  pub word : TellsWord (fault_word trouble.fault) old new
  pub about : TellsAbout (fault_word trouble.fault) trouble.about old new

-- memory ran out
abbrev pub no_memory : Trouble
no_memory = record { fault = Fault.Memory; about = About.Nothing }

-- a source was not read: a stream or a file failed, or memory ran out
abbrev pub IsReadFault : Trouble → Type 0
IsReadFault trouble = (trouble.fault ≡ Fault.Stream) ⊎ (trouble ≡ no_memory)
