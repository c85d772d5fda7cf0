-- What the command `asm` writes, and how it ends.
use Rattle.std.specs.{Prelude.{◌≡◌, ◌⊎◌, ℕ, Bool, true, false, Option, Some, IfSome, List, [], Result, Ok, Err, option_map}}
use Rattle.war_types.specs.{Warrior.WarriorParts, declared.fault.AsmFault.AsmFault, declared.settings.RawSettings.RawSettings, declared.settings.SettingsFault.SettingsFault}
use Rattle.{redcode_asm.specs.{Assembly.assembly, LoadText.load_text}, redcode_listing.specs.Listing.IsListing, koth_text.specs.Refusal.refusal_line, koth_words.specs.declared.requests.Assembled.Assembled}
use Rattle.koth_commands.specs.{Answer.{AnswerParts, EndsAs, IsGiven}, Define.{HasNoText, text_by}, Streams.{From, Streams, Takes, TakesSome}, Trouble.IsReadFault}
use Rattle.koth_commands.specs.declared.{status.Status.Status, trouble.Trouble.Trouble}

-- what is asked for: the body of a definition in place of those of its name, if one is given, and a listing or not
pub record Wanted : Type 0 where
  pub define : Option (List ℕ)
  pub listing : Bool

abbrev pub wanted_of : Assembled → Wanted
wanted_of wanted = record { define = option_map (λ words. words.now) wanted.define; listing = wanted.listing }

-- what is written of the warrior that a source gives: its listing, or its load text
abbrev pub SaysLoad : Bool → RawSettings → List ℕ → WarriorParts → List ℕ → Type 0
SaysLoad true s source warrior text = IsListing s source warrior text
SaysLoad false s source warrior text = text ≡ load_text s.core warrior

-- what is written: that, or the refusal
abbrev pub SaysOutcome : Bool → RawSettings → List ℕ → Result WarriorParts AsmFault → List ℕ → Type 0
SaysOutcome listing s source (Ok warrior) text = SaysLoad listing s source warrior text
SaysOutcome listing s source (Err fault) text = text ≡ refusal_line fault

abbrev pub status_of : Result WarriorParts AsmFault → Status
status_of (Ok warrior) = Status.Done
status_of (Err fault) = Status.Refused

-- what is written on standard error: nothing of a warrior, and some text that explains a refusal
abbrev pub Explains : Result WarriorParts AsmFault → List ℕ → Type 0
Explains (Ok warrior) note = note ≡ []
Explains (Err fault) note = Unit {0}

-- what is answered to a text that is assembled
pub record IsAssembled (listing : Bool) (s : RawSettings) (source : List ℕ) (answer : AnswerParts) : Type 0 where
  pub status : answer.status ≡ status_of (assembly s source)
  pub text : SaysOutcome listing s source (assembly s source) answer.text
  pub note : Explains (assembly s source) answer.note

-- what is assembled for the whole input has the outcome of this text
abbrev pub HasOutcomeOf : RawSettings → Option (List ℕ) → List ℕ → List ℕ → Type 0
HasOutcomeOf s define text input = (whole : List ℕ) × (text_by define input ≡ Some whole) × (assembly s whole ≡ assembly s text)

-- a source was taken, and this is the answer to the text that is assembled for it, whose outcome is the whole input's
-- too
pub record Answers (wanted : Wanted) (s : RawSettings) (answer : AnswerParts) (before after : Option (List ℕ)) : Type 0 where
  pub source : List ℕ
  pub taken : Takes before after source
  pub text : List ℕ
  pub defined : text_by wanted.define source ≡ Some text
  pub comes : IsAssembled wanted.listing s text answer
  pub whole : IfSome before (HasOutcomeOf s wanted.define text)

-- a source was taken for which nothing is assembled
abbrev pub TakesNoText : Option (List ℕ) → Trouble → Option (List ℕ) → Option (List ℕ) → Type 0
TakesNoText define trouble before after = (source : List ℕ) × Takes before after source × HasNoText define source trouble

-- a source is answered, or could not be read, or nothing is assembled for it, or memory ran out
abbrev pub IsDone : Wanted → RawSettings → Result AnswerParts Trouble → Option (List ℕ) → Option (List ℕ) → Type 0
IsDone wanted s (Ok answer) before after = Answers wanted s answer before after
IsDone wanted s (Err trouble) before after = (IsReadFault trouble × TakesSome before after) ⊎ TakesNoText wanted.define trouble before after

-- what is done to a source of the input or else of a file, under the settings that are given
abbrev pub IsDoneFrom : Bool → Wanted → Result RawSettings SettingsFault → Option (List ℕ) → Option (List ℕ) → Result AnswerParts Trouble → Type 0
IsDoneFrom of_input wanted settings before after done =
    IsGiven (λ s i j d. From of_input (IsDone wanted s d) i j) settings before after done

-- how `asm` ends: nothing is written on the output before the source is taken, and then the answer to it
abbrev pub EndsAsmFrom : Bool → Wanted → Result RawSettings SettingsFault → Status → Streams → Streams → Type 0
EndsAsmFrom of_input wanted settings status before after = EndsAs (IsDoneFrom of_input wanted settings) status before after
