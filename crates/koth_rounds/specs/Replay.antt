-- What the command `replay` writes, and how it ends.
use Rattle.std.specs.Prelude.{◌≡◌, ℕ, Bool, true, false, Option, List, [], Result}
use Rattle.war_types.specs.{Warrior.WarriorParts, declared.settings.RawSettings.RawSettings, declared.settings.SettingsFault.SettingsFault}
use Rattle.koth_words.specs.declared.requests.{Round.Round, View.View}
use Rattle.koth_commands.specs.{Answer.{AnswerParts, EndsGiven, answer_parts}, Pair.IsWarriorOf, Streams.Streams, declared.status.Status.Status}
use Rattle.koth_rounds.specs.{Asked.{IsShown, ShowsNone, with_round}, Ends.EndsShown, Page.{IsRoundText, IsSentence}}

-- the page of the match of two warriors whose sources assemble, and the sentence of its round
pub record IsWatched (s : RawSettings) (round : Round) (text note : List ℕ) : Type 0 where
  pub older : WarriorParts
  pub younger : WarriorParts
  pub older_comes : IsWarriorOf s older
  pub younger_comes : IsWarriorOf s younger
  pub number : ℕ
  pub asked : IsShown s older younger round number
  pub shown : IsRoundText s older younger number text
  pub said : IsSentence s older younger number note

-- what is written of such a page: the page, or nothing if it is put into a file; and then the sentence
abbrev pub IsPage : RawSettings → Round → Bool → List ℕ → List ℕ → Type 0
IsPage s round false text note = IsWatched s round text note
IsPage s round true text note = ((page : List ℕ) × IsWatched s round page note) × (text ≡ [])

-- an answer whose page was put into a file, if it has one and a file is named
abbrev pub page_left : Bool → Status → List ℕ → List ℕ
page_left true Status.Done text = []
page_left named status text = text

abbrev pub with_page : Bool → AnswerParts → AnswerParts
with_page named a = answer_parts a.status (page_left named a.status a.text) a.note

-- how `replay` ends under settings, by what the output and then standard error hold before and after. It writes the
-- page of that round, and how it ended for people, or there is no match or no such round, or a stream failed and maybe a
-- part of the answer was written
abbrev pub EndsReplayUnder : RawSettings → Round → Bool → Bool → Status → Option (List ℕ) → Option (List ℕ) → Option (List ℕ) → Option (List ℕ) → Type 0
EndsReplayUnder s round defines named status o p e f = EndsShown s View.Plain (IsPage s round named) (ShowsNone s round defines) status o p e f

-- how `replay` of this round ends, with a definition or without: as under the settings that are given, with their refusal, also if their match
-- doesn't have the round, or out of memory
abbrev pub EndsReplay : Round → Bool → Bool → Result RawSettings SettingsFault → Status → Streams → Streams → Type 0
EndsReplay round defines named settings status before after =
    EndsGiven (λ s end u v. EndsReplayUnder s round defines named end u.output v.output u.errors v.errors) (with_round round settings) status before after
