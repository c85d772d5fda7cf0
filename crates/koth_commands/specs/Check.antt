-- What the command `check` writes, and how it ends.
use Rattle.std.specs.{Prelude.{◌≡◌, ◌⊎◌, ℕ, Bool, true, false, Option, None, Some, List, [], ◌∷◌, ◌++◌, take, drop, map, Result}, List.{flat_map, list_any}, Io.KnownBytes.{Appends, Keeps}}
use Rattle.{war_types.specs.{declared.settings.RawSettings.RawSettings, declared.settings.SettingsFault.SettingsFault}, redcode_diagnosis.specs.Text.Begins, koth_text.specs.Written.WritesPart}
use Rattle.koth_words.specs.{Sources.{Place, place}, declared.requests.Checked.{Checked}}
use Rattle.koth_commands.specs.{Answer.{AnswerParts, EndsGiven}, Report.{Manner, IsAnswered, IsNoteOf, IsReport, is_refused, status_by}}
use Rattle.koth_commands.specs.{Define.{HasNoText, fault_by, text_by}, Streams.{From, Streams, Takes, TakesSome, at_input, name_at}, Told.{TellsWord, apart_text}, Trouble.{IsReadFault, fault_word}}
use Rattle.koth_commands.specs.declared.{status.Status.Status, telling.Apart.Apart, trouble.{Fault.Fault, Trouble.Trouble}}

-- ---- one source

-- a source was taken from the input or else from a file
abbrev pub IsTaken : Place → List ℕ → Option (List ℕ) → Option (List ℕ) → Type 0
IsTaken at source before after = From (at_input at) (λ old new. Takes old new source) before after

-- a source was taken, and this is the answer to the text that is assembled for it
pub record IsChecked (s : RawSettings) (how : Manner) (at : Place) (before after : Option (List ℕ)) (answer : AnswerParts) : Type 0 where
  pub source : List ℕ
  pub taken : IsTaken at source before after
  pub text : List ℕ
  pub defined : text_by how.define source ≡ Some text
  pub answers : IsAnswered s how (name_at at) text answer

-- or it could not be read, or memory ran out, and a part of it may be taken; or nothing is assembled for it
abbrev pub IsFaultAt : Manner → Place → Option (List ℕ) → Option (List ℕ) → Trouble → Type 0
IsFaultAt how at before after trouble = (IsReadFault trouble × From (at_input at) TakesSome before after)
    ⊎ ((source : List ℕ) × IsTaken at source before after × HasNoText how.define source trouble)

-- whether no further source is checked: after a lack of memory, and if the output failed at the report of a source that
-- was read
abbrev pub is_over : Bool → Status → Bool
is_over is_read Status.StreamFault = is_read
is_over is_read Status.NoMemory = true
is_over is_read _ = false

-- ---- sources, one after the other

-- What became of a source: it could not be read, nothing is assembled for it, or this text is.
pub data Reading : Type 0 where
  Unread : Reading
  Undefined : Reading
  Text : List ℕ → Reading

abbrev pub is_unread : Reading → Bool
is_unread Reading.Unread = true
is_unread Reading.Undefined = false
is_unread (Reading.Text text) = false

-- whether it is refused: also if nothing is assembled for it
abbrev pub is_refused_as : RawSettings → Manner → Reading → Bool
is_refused_as s how Reading.Unread = false
is_refused_as s how Reading.Undefined = true
is_refused_as s how (Reading.Text text) = is_refused s how (Some text)

-- one of them: its place, what became of it, and what was written of it on the output and on standard error
pub record Part : Type 0 where
  pub at : Place
  pub source : Reading
  pub text : List ℕ
  pub told : List ℕ

-- the word of a fault was told, with what follows it, or as much of that as standard error took
abbrev pub BeginsWord : Fault → List ℕ → Type 0
BeginsWord fault told = (apart : Apart) × (more : List ℕ) × Begins told (fault_word fault ++ (apart_text apart ++ more))

-- it was taken: the report of the text that is assembled for it, and the note or as much of that as standard error took.
-- Or nothing is assembled for it, or it could not be read: the word of that
abbrev pub IsPartBy : RawSettings → Manner → Place → Reading → List ℕ → List ℕ → Option (List ℕ) → Option (List ℕ) → Type 0
IsPartBy s how at (Reading.Text assembled) text told before after =
    (source : List ℕ) × IsTaken at source before after × (text_by how.define source ≡ Some assembled)
    × IsReport s how (name_at at) assembled text × ((note : List ℕ) × IsNoteOf (name_at at) assembled note × Begins told note)
IsPartBy s how at Reading.Undefined text told before after =
    (source : List ℕ) × IsTaken at source before after × (text_by how.define source ≡ None) × (text ≡ []) × BeginsWord (fault_by how.define) told
IsPartBy s how at Reading.Unread text told before after = From (at_input at) TakesSome before after × (text ≡ []) × BeginsWord Fault.Stream told

abbrev pub IsPart : RawSettings → Manner → Part → Option (List ℕ) → Option (List ℕ) → Type 0
IsPart s how part before after = IsPartBy s how part.at part.source part.text part.told before after

-- each was taken from what the ones before it left of the input
abbrev pub AreParts : RawSettings → Manner → List Part → Option (List ℕ) → Option (List ℕ) → Type 0
AreParts s how [] before after = before ≡ after
AreParts s how (part ∷ parts) before after = (between : Option (List ℕ)) × IsPart s how part before between × AreParts s how parts between after

-- 3 if one can't be read, else 1 if one is refused, and else 0
abbrev pub status_over : RawSettings → Manner → List Part → Status
status_over s how parts = status_by (list_any (λ part. is_unread part.source) parts) (list_any (λ part. is_refused_as s how part.source) parts)

-- the sources at these places were checked
pub record Checks (s : RawSettings) (how : Manner) (places : List Place) (status : Status) (before after : Streams) : Type 0 where
  pub parts : List Part
  pub placed : map (λ part. part.at) parts ≡ places
  pub each : AreParts s how parts before.input after.input
  pub ends : status ≡ status_over s how parts
  pub written : Appends before.output after.output (flat_map (λ part. part.text) parts)
  pub told : Appends before.errors after.errors (flat_map (λ part. part.told) parts)

-- a part of the report of the next of these sources was written
abbrev pub ReportsPart : RawSettings → Manner → List Place → Streams → Streams → Type 0
ReportsPart s how [] before after = ⊥
ReportsPart s how (at ∷ rest) before after = (source : List ℕ) × (assembled : List ℕ) × (text : List ℕ)
    × IsTaken at source before.input after.input × (text_by how.define source ≡ Some assembled)
    × IsReport s how (name_at at) assembled text × WritesPart before.output after.output text

-- whether the next of these sources is the input
abbrev pub input_next : List Place → Bool
input_next [] = false
input_next (at ∷ rest) = at_input at

-- the output failed at the report of the next of these sources, or memory ran out
abbrev pub Breaks : RawSettings → Manner → List Place → Status → Streams → Streams → Type 0
Breaks s how places status before after =
    ((status ≡ Status.StreamFault) × ReportsPart s how places before after × TellsWord (fault_word Fault.Stream) before.errors after.errors)
    ⊎ ((status ≡ Status.NoMemory) × From (input_next places) TakesSome before.input after.input × Keeps before.output after.output
    × TellsWord (fault_word Fault.Memory) before.errors after.errors)

-- the first `count` sources were checked, and at the next one the output failed or memory ran out
pub record Stops (s : RawSettings) (how : Manner) (places : List Place) (status : Status) (before after : Streams) : Type 0 where
  pub count : ℕ
  pub begun : Status
  pub between : Streams
  pub checked : Checks s how (take count places) begun before between
  pub breaks : Breaks s how (drop count places) status between after

-- how `check` ends under settings: with a report of each source in their order
abbrev pub EndsCheckUnder : RawSettings → Manner → List Place → Status → Streams → Streams → Type 0
EndsCheckUnder s how places status before after = Checks s how places status before after ⊎ Stops s how places status before after

-- the places of its sources
abbrev pub places_of : Checked → List Place
places_of checked = map place checked.files.items

-- how `check` ends: as under the settings that are given, with their refusal, or out of memory
abbrev pub EndsCheck : Manner → List Place → Result RawSettings SettingsFault → Status → Streams → Streams → Type 0
EndsCheck how places settings status before after = EndsGiven (λ s. EndsCheckUnder s how places) settings status before after
