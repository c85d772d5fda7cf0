-- What a command answers, how that is delivered, and how settings are refused.
use Rattle.std.specs.{Prelude.{◌≡◌, ◌⊎◌, ℕ, false, Option, List, Result, Ok, Err}, Io.KnownBytes.{Appends, Keeps}}
use Rattle.war_types.specs.{Fault.kind_name, declared.fault.AsmFault.AsmFault}
use Rattle.{koth_json.specs.{Finding.refused_line, declared.finding.{Finding.Finding, Severity.Severity}}, koth_words.specs.declared.requests.View.View}
use Rattle.redcode_diagnosis.specs.Told.{is_memory}
use Rattle.{war_types.specs.{declared.settings.RawSettings.RawSettings, declared.settings.SettingsFault.SettingsFault}, koth_text.specs.{Refusal.refusal_line, Written.WritesPart}}
use Rattle.koth_commands.specs.{Streams.Streams, Told.TellsWord, Trouble.{Tells, fault_word, no_memory, settings_word}}
use Rattle.koth_commands.specs.declared.{status.Status.Status, trouble.{Fault.Fault, Trouble.Trouble}}

-- the word was written on standard error, nothing was read, and nothing was written on the output
pub record RefusesSettings (fault : SettingsFault) (before after : Streams) : Type 0 where
  pub input : Keeps before.input after.input
  pub output : Keeps before.output after.output
  pub told : TellsWord (settings_word fault) before.errors after.errors

-- nothing was read, and nothing was written on the output
pub record KeepsAll (before after : Streams) : Type 0 where
  pub input : Keeps before.input after.input
  pub output : Keeps before.output after.output

-- how a command ends that takes settings: as it does under these settings, with their refusal, or out of memory
abbrev pub EndsGiven : (RawSettings → Status → Streams → Streams → Type 0) → Result RawSettings SettingsFault → Status → Streams → Streams → Type 0
EndsGiven ends (Ok s) status before after = ends s status before after
EndsGiven ends (Err fault) Status.Done before after = ⊥
EndsGiven ends (Err fault) Status.Refused before after = RefusesSettings fault before after
EndsGiven ends (Err fault) Status.WordFault before after = ⊥
EndsGiven ends (Err fault) Status.StreamFault before after = ⊥
EndsGiven ends (Err fault) Status.NoMemory before after = KeepsAll before after × TellsWord (fault_word Fault.Memory) before.errors after.errors

-- an answer without its place in memory: how the program ends, the text for the output, and the note for standard error
pub record AnswerParts : Type 0 where
  pub status : Status
  pub text : List ℕ
  pub note : List ℕ

abbrev pub answer_parts : Status → List ℕ → List ℕ → AnswerParts
answer_parts status text note = record { status = status; text = text; note = note }

-- the text was written whole and then the note, or a part of it. Or the output failed: a part of the text was written,
-- and that is told
abbrev pub DeliversText : AnswerParts → Status → Option (List ℕ) → Option (List ℕ) → Option (List ℕ) → Option (List ℕ) → Type 0
DeliversText answer status o p e f = ((status ≡ answer.status) × Appends o p answer.text × WritesPart e f answer.note)
    ⊎ ((status ≡ Status.StreamFault) × WritesPart o p answer.text × TellsWord (fault_word Fault.Stream) e f)

-- what a command answers was written, or that there is no answer was told and nothing was written on the output, by
-- what the output and then standard error hold before and after
abbrev pub Delivers : Result AnswerParts Trouble → Status → Option (List ℕ) → Option (List ℕ) → Option (List ℕ) → Option (List ℕ) → Type 0
Delivers (Ok answer) status o p e f = DeliversText answer status o p e f
Delivers (Err trouble) status o p e f = Keeps o p × Tells trouble status e f

-- what was done is delivered, by the streams before and after
abbrev pub EndsAs : (Option (List ℕ) → Option (List ℕ) → Result AnswerParts Trouble → Type 0) → Status → Streams → Streams → Type 0
EndsAs IsDone status before after =
    (done : Result AnswerParts Trouble) × IsDone before.input after.input done × Delivers done status before.output after.output before.errors after.errors

-- what is done under the settings that are given, by what the input has left before and after. Or a setting is refused
-- and nothing is read
abbrev pub IsGiven : (RawSettings → Option (List ℕ) → Option (List ℕ) → Result AnswerParts Trouble → Type 0) → Result RawSettings SettingsFault
    → Option (List ℕ) → Option (List ℕ) → Result AnswerParts Trouble → Type 0
IsGiven IsDone (Ok s) i j done = IsDone s i j done
IsGiven IsDone (Err fault) i j (Ok answer) = ⊥
IsGiven IsDone (Err fault) i j (Err trouble) = Keeps i j × ((trouble.fault ≡ Fault.Settings fault) ⊎ (trouble ≡ no_memory))

-- the line of JSON of a source that is refused, whatever messages call it
pub record IsRefusedLine (fault : AsmFault) (text : List ℕ) : Type 0 where
  pub name : List ℕ
  pub finding : Finding
  pub severity : finding.severity ≡ Severity.Error
  pub kind : finding.kind.now ≡ kind_name fault.kind
  pub line : finding.line ≡ fault.line
  pub told : text ≡ refused_line name finding

-- what is written of a source that is refused
abbrev pub SaysRefused : View → AsmFault → List ℕ → Type 0
SaysRefused View.Plain fault text = text ≡ refusal_line fault
SaysRefused View.Table fault text = text ≡ refusal_line fault
SaysRefused View.Json fault text = IsRefusedLine fault text

-- a source is refused: its line, and some note that explains it
pub record IsRefusal (view : View) (fault : AsmFault) (answer : AnswerParts) : Type 0 where
  pub refused : answer.status ≡ Status.Refused
  pub text : SaysRefused view fault answer.text
  pub kind : is_memory fault.kind ≡ false
