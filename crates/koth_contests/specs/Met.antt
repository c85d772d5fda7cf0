-- One warrior, mine, against others, one after the other: what is written of it, and how it ends.
use Rattle.std.specs.{Prelude.{◌≡◌, ℕ, Bool, true, false, Option, None, Some, IfSome, List, [], ◌++◌, map, sum_by, All, Result, Ok, Err, Vec}, List.{flat_map, list_all}, Io.KnownBytes.{Appends, Keeps}}
use Rattle.{war_types.specs.{Warrior.WarriorParts, declared.settings.RawSettings.RawSettings}, koth_text.specs.{Written.WritesPart, declared.tally.Tally.Tally}}
use Rattle.{koth_words.specs.declared.requests.View.View, koth_commands.specs.{Pair.IsWarriorOf, Told.{TellsWord, WritesSome}, Trouble.{fault_word, no_memory}, Answer.{AnswerParts, answer_parts}}}
use Rattle.koth_commands.specs.declared.{status.Status.Status, trouble.{Fault.Fault, Trouble.Trouble}}
use Rattle.koth_contests.specs.{Contest.{added, contest_tally, no_rounds, tally}, Lines.{Entrant, contender, contest_line, entrant, heading, sum_line}, declared.meeting.Terms.Terms}

-- an opponent: what messages call its file, and the warrior that its source assembles to; no warrior if the file can't
-- be read or the source is refused
pub record Met : Type 0 where
  pub file : List ℕ
  pub warrior : Option WarriorParts

abbrev pub met : List ℕ → Option WarriorParts → Met
met file warrior = record { file = file; warrior = warrior }

abbrev pub is_fought : Option WarriorParts → Bool
is_fought None = false
is_fought (Some warrior) = true

-- the rounds of mine against this opponent: no rounds if the opponent has no warrior
abbrev pub tally_against : RawSettings → Bool → Entrant → Option WarriorParts → Tally
tally_against s both mine None = no_rounds
tally_against s both mine (Some other) = contest_tally s both mine.warrior other

-- the line of this opponent: no line if it has no warrior
abbrev pub line_against : RawSettings → Terms → Entrant → List ℕ → Option WarriorParts → List ℕ
line_against s terms mine file None = []
line_against s terms mine file (Some other) =
    contest_line terms.view (contender mine) (contender (entrant file other)) (contest_tally s terms.both mine.warrior other)

abbrev pub met_line : RawSettings → Terms → Entrant → Met → List ℕ
met_line s terms mine m = line_against s terms mine m.file m.warrior

-- the lines of these opponents, in their order
abbrev pub met_lines : RawSettings → Terms → Entrant → List Met → List ℕ
met_lines s terms mine ms = flat_map (met_line s terms mine) ms

-- 1 for an opponent that has a warrior, else 0
abbrev pub count_of : Option WarriorParts → ℕ
count_of None = 0
count_of (Some warrior) = 1

-- how many of them mine fought
abbrev pub met_count : List Met → ℕ
met_count ms = sum_by (λ (m : Met). count_of m.warrior) ms

-- the rounds of mine against all of them
abbrev pub met_sum : RawSettings → Bool → Entrant → List Met → Tally
met_sum s both mine ms = tally (sum_by (λ (m : Met). (tally_against s both mine m.warrior).won) ms)
    (sum_by (λ (m : Met). (tally_against s both mine m.warrior).lost) ms) (sum_by (λ (m : Met). (tally_against s both mine m.warrior).tied) ms)

-- whether mine fought them all
abbrev pub all_fought : List Met → Bool
all_fought ms = list_all (λ (m : Met). is_fought m.warrior) ms

-- the warrior of an opponent comes of some source
abbrev pub IsMet : RawSettings → Met → Type 0
IsMet s m = IfSome m.warrior (IsWarriorOf s)

-- what is written of mine against these: a line for each that it fought, and one for all of them
abbrev pub contest_text : RawSettings → Terms → Entrant → List Met → List ℕ
contest_text s terms mine ms =
    heading terms.view ++ (met_lines s terms mine ms ++ sum_line terms.view (contender mine) (met_count ms) (met_sum s terms.both mine ms))

-- the text of mine against the files of these names, in their order, none left out; and whether mine fought them all
pub record IsContest (s : RawSettings) (terms : Terms) (mine : Entrant) (files : List (List ℕ)) (whole : Bool) (text : List ℕ) : Type 0 where
  pub opponents : List Met
  pub named : map (λ (m : Met). m.file) opponents ≡ files
  pub come : All (IsMet s) opponents
  pub all : whole ≡ all_fought opponents
  pub tells : text ≡ contest_text s terms mine opponents

-- the text of mine against the first files of these names
pub record IsBegun (s : RawSettings) (terms : Terms) (mine : Entrant) (files : List (List ℕ)) (text : List ℕ) : Type 0 where
  pub opponents : List Met
  pub rest : List (List ℕ)
  pub named : map (λ (m : Met). m.file) opponents ++ rest ≡ files
  pub come : All (IsMet s) opponents
  pub tells : text ≡ contest_text s terms mine opponents

-- what standard error gets if mine fought them all: nothing if the lines are for programs
abbrev pub Notes : View → Option (List ℕ) → Option (List ℕ) → Type 0
Notes View.Plain e f = Keeps e f
Notes View.Table e f = WritesSome e f
Notes View.Json e f = Keeps e f

-- some text was written and then a word
abbrev pub TellsAfter : List ℕ → Option (List ℕ) → Option (List ℕ) → Type 0
TellsAfter word e f = (mid : Option (List ℕ)) × WritesSome e mid × TellsWord word mid f

-- a part of the text of mine against the first files of these names was written
abbrev pub WritesBegun : RawSettings → Terms → Entrant → List (List ℕ) → Option (List ℕ) → Option (List ℕ) → Type 0
WritesBegun s terms mine files o p = (text : List ℕ) × IsBegun s terms mine files text × WritesPart o p text

-- how mine against these files ends, by what the output and then standard error hold before and after: all of the text
-- is written, and why opponents have no warrior; or a part of the text, since the output failed or memory ran out
abbrev pub EndsMeetings : RawSettings → Terms → Entrant → List (List ℕ) → Status → Option (List ℕ) → Option (List ℕ) → Option (List ℕ) → Option (List ℕ) → Type 0
EndsMeetings s terms mine files Status.Done o p e f = ((text : List ℕ) × IsContest s terms mine files true text × Appends o p text) × Notes terms.view e f
EndsMeetings s terms mine files Status.Refused o p e f = ((text : List ℕ) × IsContest s terms mine files false text × Appends o p text) × WritesSome e f
EndsMeetings s terms mine files Status.WordFault o p e f = ⊥
EndsMeetings s terms mine files Status.StreamFault o p e f = WritesBegun s terms mine files o p × TellsAfter (fault_word Fault.Stream) e f
EndsMeetings s terms mine files Status.NoMemory o p e f = WritesBegun s terms mine files o p × TellsAfter (fault_word Fault.Memory) e f

-- how the meeting with one opponent ends: its line is written and its rounds are added; or it has no warrior, and
-- standard error says why; or a part of its line is written; or memory ran out
abbrev pub Meets : RawSettings → Terms → Entrant → List ℕ → Tally → Tally → Status → Option (List ℕ) → Option (List ℕ) → Option (List ℕ) → Option (List ℕ) → Type 0
Meets s terms mine file sum new Status.Done o p e f = (other : WarriorParts) × IsWarriorOf s other
    × (new ≡ added sum (contest_tally s terms.both mine.warrior other)) × Appends o p (line_against s terms mine file (Some other)) × Keeps e f
Meets s terms mine file sum new Status.Refused o p e f = (new ≡ sum) × Keeps o p × WritesSome e f
Meets s terms mine file sum new Status.WordFault o p e f = ⊥
Meets s terms mine file sum new Status.StreamFault o p e f = (other : WarriorParts) × IsWarriorOf s other
    × WritesPart o p (line_against s terms mine file (Some other)) × TellsWord (fault_word Fault.Stream) e f
Meets s terms mine file sum new Status.NoMemory o p e f = Keeps o p × TellsWord (fault_word Fault.Memory) e f

-- what standard error gets about an opponent that has no warrior
abbrev pub TellsNone : Status → Option (List ℕ) → Option (List ℕ) → Type 0
TellsNone Status.Refused e f = WritesSome e f
TellsNone Status.NoMemory e f = TellsWord (fault_word Fault.Memory) e f
TellsNone status e f = ⊥

-- the line as an answer, if there was memory for it
abbrev pub IsLineAnswer : {A E : Type 0} → Result (Vec ℕ A) E → Result AnswerParts Trouble → Type 0
IsLineAnswer (Ok line) answer = answer ≡ Ok (answer_parts Status.Done line.items [])
IsLineAnswer (Err e) answer = answer ≡ Err no_memory

-- how the writing of a line ends: all of it is written and nothing is reported, or a part of it, or none of it for lack
-- of memory
abbrev pub EndsLine : List ℕ → Status → Option (List ℕ) → Option (List ℕ) → Option (List ℕ) → Option (List ℕ) → Type 0
EndsLine text Status.Done o p e f = Appends o p text × Keeps e f
EndsLine text Status.StreamFault o p e f = WritesPart o p text × TellsWord (fault_word Fault.Stream) e f
EndsLine text Status.NoMemory o p e f = Keeps o p × TellsWord (fault_word Fault.Memory) e f
EndsLine text status o p e f = ⊥

-- how the writing of a line ends that was made before, if there was memory for that
abbrev pub EndsMade : {A E : Type 0} → Result (Vec ℕ A) E → Status → Option (List ℕ) → Option (List ℕ) → Option (List ℕ) → Option (List ℕ) → Type 0
EndsMade (Ok line) status o p e f = EndsLine line.items status o p e f
EndsMade (Err error) status o p e f = (status ≡ Status.NoMemory) × Keeps o p × TellsWord (fault_word Fault.Memory) e f
