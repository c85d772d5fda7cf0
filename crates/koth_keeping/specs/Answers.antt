-- What a command on a hill answers, and how it ends.
use Rattle.std.specs.Prelude.{◌≡◌, ◌⊎◌, ℕ, List, [], Result, Ok, Err}
use Rattle.war_types.specs.declared.{settings.RawSettings.RawSettings, settings.SettingsFault.SettingsFault}
use Rattle.koth_commands.specs.{Answer.{AnswerParts, answer_parts, Delivers}, Streams.Streams, Trouble.no_memory, declared.{status.Status.Status, trouble.{Fault.Fault, Trouble.Trouble}}}
use Rattle.koth_files.specs.Trouble.{IsOfHill}

-- its answer, or why it was not carried out
abbrev pub Outcome : Type 0
Outcome = Result AnswerParts Trouble

-- an answer of which this holds; or a fault of a hill, a stream or a file, or lack of memory
abbrev pub Answers : (AnswerParts → Type 0) → Outcome → Type 0
Answers Says (Ok answer) = Says answer
Answers Says (Err trouble) = IsOfHill trouble

-- the same under the settings that are given, or their refusal, or lack of memory
abbrev pub AnswersGiven : (RawSettings → Outcome → Type 0) → Result RawSettings SettingsFault → Outcome → Type 0
AnswersGiven May (Ok s) outcome = May s outcome
AnswersGiven May (Err fault) (Ok answer) = ⊥
AnswersGiven May (Err fault) (Err trouble) = (trouble.fault ≡ Fault.Settings fault) ⊎ (trouble ≡ no_memory)

-- it is done: this line, and no note
abbrev pub SaysLine : List ℕ → AnswerParts → Type 0
SaysLine line answer = answer ≡ answer_parts Status.Done line []

-- how a command ends: its answer, or why it has none, is such a one and was delivered
pub record Ends (May : Outcome → Type 0) (status : Status) (before after : Streams) : Type 0 where
  pub outcome : Outcome
  pub may : May outcome
  pub delivered : Delivers outcome status before.output after.output before.errors after.errors
