-- Two warriors from two sources, and how a command of their match ends.
use Rattle.std.specs.{Prelude.{◌≡◌, ◌⊎◌, ⊤, ℕ, Bool, Option, None, Some, List, [], Result, Ok, Err}, Io.KnownBytes.{Appends, Keeps}}
use Rattle.war_types.specs.{Warrior.WarriorParts, declared.fault.AsmFault.AsmFault, declared.settings.RawSettings.RawSettings}
use Rattle.{redcode_asm.specs.Assembly.assembly, koth_text.specs.Written.WritesPart, koth_words.specs.declared.requests.View.View}
use Rattle.koth_commands.specs.{Answer.{AnswerParts, SaysRefused}, Define.{HasNoText, text_by}, Pair.{IsFaultOf, IsWarriorOf}, Streams.{From, Takes, TakesSome}, Told.{TellsWord, WritesSome}, Trouble.{IsReadFault, fault_word}}
use Rattle.koth_commands.specs.declared.{status.Status.Status, trouble.{Fault.Fault, Trouble.Trouble}}
use Rattle.koth_contests.specs.declared.pair.{NoWarrior.NoWarrior, Pair.Pair}

-- both may fight under the settings
pub record ArePairOf {A : Type 0} (s : RawSettings) (pair : Pair A) : Type 0 where
  pub older : IsWarriorOf s pair.older
  pub younger : IsWarriorOf s pair.younger

-- a definition is none, or no line defines its name
abbrev pub IsDefineFault : Trouble → Type 0
IsDefineFault trouble = (trouble.fault ≡ Fault.NoEqu) ⊎ (trouble.fault ≡ Fault.BadDefine)

-- why there is no warrior: its source is refused with this fault, or could not be read, or nothing is assembled for it
abbrev pub IsNoneOf : {A : Type 0} → RawSettings → NoWarrior A → Type 0
IsNoneOf s (NoWarrior.Refused name text fault) = assembly s text.items ≡ Err fault
IsNoneOf s (NoWarrior.Failed trouble) = IsReadFault trouble
IsNoneOf s (NoWarrior.Undefined trouble) = IsDefineFault trouble

-- nothing is assembled for a source
abbrev pub WasUndefined : {A : Type 0} → NoWarrior A → Type 0
WasUndefined (NoWarrior.Refused name text fault) = ⊥
WasUndefined (NoWarrior.Failed trouble) = ⊥
WasUndefined (NoWarrior.Undefined trouble) = ⊤

-- there is no warrior, since nothing is assembled for this source or memory ran out
abbrev pub IsUndefinedFor : {A : Type 0} → Option (List ℕ) → List ℕ → NoWarrior A → Type 0
IsUndefinedFor define source (NoWarrior.Refused name text fault) = ⊥
IsUndefinedFor define source (NoWarrior.Failed trouble) = IsReadFault trouble
IsUndefinedFor define source (NoWarrior.Undefined trouble) = HasNoText define source trouble

-- a source was taken for which this text is assembled, by what its reader has left before and after
abbrev pub TakesText : Option (List ℕ) → List ℕ → Option (List ℕ) → Option (List ℕ) → Type 0
TakesText define text i j = (source : List ℕ) × Takes i j source × (text_by define source ≡ Some text)

-- the text assembles to the warrior
abbrev pub TakesWarrior : Option (List ℕ) → RawSettings → WarriorParts → Option (List ℕ) → Option (List ℕ) → Type 0
TakesWarrior define s warrior i j = (made : IsWarriorOf s warrior) × TakesText define made.source i j

-- the text is refused with this fault; or nothing is assembled for the source; or that could not be read, and some of it
-- may have been taken
abbrev pub TakesNone : {A : Type 0} → Option (List ℕ) → RawSettings → NoWarrior A → Option (List ℕ) → Option (List ℕ) → Type 0
TakesNone define s (NoWarrior.Refused name text fault) i j = (assembly s text.items ≡ Err fault) × TakesText define text.items i j
TakesNone define s (NoWarrior.Failed trouble) i j = IsReadFault trouble × TakesSome i j
TakesNone define s (NoWarrior.Undefined trouble) i j = (source : List ℕ) × Takes i j source × HasNoText define source trouble

-- what comes of the source that was taken, with this definition
abbrev pub IsTaken : {A : Type 0} → Option (List ℕ) → RawSettings → Result WarriorParts (NoWarrior A) → Option (List ℕ) → Option (List ℕ) → Type 0
IsTaken define s (Ok warrior) i j = TakesWarrior define s warrior i j
IsTaken define s (Err none) i j = TakesNone define s none i j

-- the sources of both were taken, each from the input or else from a file: the older one's first, with this definition
abbrev pub TakesBoth : Option (List ℕ) → RawSettings → Bool → Bool → WarriorParts → WarriorParts → Option (List ℕ) → Option (List ℕ) → Type 0
TakesBoth define s first second older younger i k =
    (j : Option (List ℕ)) × From first (TakesWarrior define s older) i j × From second (TakesWarrior None s younger) j k

-- what comes of two sources: both warriors; or one of the sources gives none, and nothing was taken after it
abbrev pub AreTaken : {A : Type 0} → Option (List ℕ) → RawSettings → Bool → Bool → Result (Pair A) (NoWarrior A) → Option (List ℕ) → Option (List ℕ) → Type 0
AreTaken define s first second (Ok pair) i k = TakesBoth define s first second pair.older pair.younger i k
AreTaken define s first second (Err none) i k =
    From first (TakesNone define s none) i k
    ⊎ ((older : WarriorParts) × (j : Option (List ℕ)) × From first (TakesWarrior define s older) i j × From second (TakesNone None s none) j k)

-- a source is refused, and this is written of it
abbrev pub IsRefused : RawSettings → View → List ℕ → Type 0
IsRefused s view text = (fault : AsmFault) × IsFaultOf s fault × SaysRefused view fault text

-- what a command of a match answers: such a text and no note, or what is written of a refusal, or nothing but a note
abbrev pub AnswersAs : RawSettings → View → (List ℕ → Type 0) → Type 0 → Status → List ℕ → List ℕ → Type 0
AnswersAs s view IsTold IsNothing Status.Done text note = IsTold text × (note ≡ [])
AnswersAs s view IsTold IsNothing Status.Refused text note = IsRefused s view text ⊎ (IsNothing × (text ≡ []))
AnswersAs s view IsTold IsNothing status text note = ⊥

abbrev pub IsAnswer : RawSettings → View → (List ℕ → Type 0) → Type 0 → AnswerParts → Type 0
IsAnswer s view IsTold IsNothing a = AnswersAs s view IsTold IsNothing a.status a.text a.note

-- a part of an answer was written
abbrev pub AnswersPartly : RawSettings → View → (List ℕ → Type 0) → Option (List ℕ) → Option (List ℕ) → Type 0
AnswersPartly s view IsTold old new =
    ((text : List ℕ) × IsTold text × WritesPart old new text) ⊎ ((text : List ℕ) × IsRefused s view text × WritesPart old new text)

-- how a command of a match ends, by what the output and then standard error hold before and after. The whole text is
-- written and nothing reported; or a source is refused, or there is nothing to write, and standard error says why; or a
-- file or a stream failed and maybe a part of the answer was written; or memory ran out
abbrev pub EndsMatch : RawSettings → View → (List ℕ → Type 0) → Type 0 → Status → Option (List ℕ) → Option (List ℕ) → Option (List ℕ) → Option (List ℕ) → Type 0
EndsMatch s view IsTold IsNothing Status.Done o p e f = (text : List ℕ) × IsTold text × Appends o p text × Keeps e f
EndsMatch s view IsTold IsNothing Status.Refused o p e f =
    (((text : List ℕ) × IsRefused s view text × Appends o p text) ⊎ (IsNothing × Keeps o p)) × WritesSome e f
EndsMatch s view IsTold IsNothing Status.WordFault o p e f = ⊥
EndsMatch s view IsTold IsNothing Status.StreamFault o p e f = (Keeps o p ⊎ AnswersPartly s view IsTold o p) × TellsWord (fault_word Fault.Stream) e f
EndsMatch s view IsTold IsNothing Status.NoMemory o p e f = Keeps o p × TellsWord (fault_word Fault.Memory) e f
