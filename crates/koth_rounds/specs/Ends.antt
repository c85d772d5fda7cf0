-- How a command of a round ends, of which a text is written, and after it a note for people.
use Rattle.std.specs.{Prelude.{◌≡◌, ◌⊎◌, ℕ, Option, List, []}, Io.KnownBytes.{Appends, Keeps}}
use Rattle.{war_types.specs.declared.settings.RawSettings.RawSettings, koth_text.specs.Written.WritesPart, koth_words.specs.declared.requests.View.View}
use Rattle.koth_commands.specs.{Answer.AnswerParts, Told.{TellsWord, WritesSome}, Trouble.fault_word, declared.status.Status.Status, declared.trouble.Fault.Fault}
use Rattle.koth_contests.specs.Pair.{IsRefused}

-- what is answered: such a text and such a note, or what is written of a refusal, or nothing but a note
abbrev pub AnswersAs : RawSettings → View → (List ℕ → List ℕ → Type 0) → Type 0 → Status → List ℕ → List ℕ → Type 0
AnswersAs s view IsTold IsNothing Status.Done text note = IsTold text note
AnswersAs s view IsTold IsNothing Status.Refused text note = IsRefused s view text ⊎ (IsNothing × (text ≡ []))
AnswersAs s view IsTold IsNothing status text note = ⊥

abbrev pub IsAnswer : RawSettings → View → (List ℕ → List ℕ → Type 0) → Type 0 → AnswerParts → Type 0
IsAnswer s view IsTold IsNothing a = AnswersAs s view IsTold IsNothing a.status a.text a.note

-- a part of an answer was written
abbrev pub AnswersPartly : RawSettings → View → (List ℕ → List ℕ → Type 0) → Option (List ℕ) → Option (List ℕ) → Type 0
AnswersPartly s view IsTold old new =
    ((text : List ℕ) × (note : List ℕ) × IsTold text note × WritesPart old new text) ⊎ ((text : List ℕ) × IsRefused s view text × WritesPart old new text)

-- how such a command ends, by what the output and then standard error hold before and after. The whole text is written,
-- and then the note or a part of it; or a source is refused, or there is nothing to write, and standard error says why;
-- or a file or a stream failed and maybe a part of the answer was written; or memory ran out
abbrev pub EndsShown : RawSettings → View → (List ℕ → List ℕ → Type 0) → Type 0 → Status → Option (List ℕ) → Option (List ℕ) → Option (List ℕ) → Option (List ℕ) → Type 0
EndsShown s view IsTold IsNothing Status.Done o p e f = (text : List ℕ) × (note : List ℕ) × IsTold text note × Appends o p text × WritesPart e f note
EndsShown s view IsTold IsNothing Status.Refused o p e f =
    (((text : List ℕ) × IsRefused s view text × Appends o p text) ⊎ (IsNothing × Keeps o p)) × WritesSome e f
EndsShown s view IsTold IsNothing Status.WordFault o p e f = ⊥
EndsShown s view IsTold IsNothing Status.StreamFault o p e f = (Keeps o p ⊎ AnswersPartly s view IsTold o p) × TellsWord (fault_word Fault.Stream) e f
EndsShown s view IsTold IsNothing Status.NoMemory o p e f = Keeps o p × TellsWord (fault_word Fault.Memory) e f
