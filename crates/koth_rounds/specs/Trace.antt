-- What the command `trace` writes, and how it ends.
use Rattle.std.specs.Prelude.{◌≡◌, ℕ, ◌-◌, ◌*◌, Bool, Option, None, Some, List, [], length, Result}
use Rattle.war_types.specs.{Warrior.WarriorParts, declared.settings.RawSettings.RawSettings, declared.settings.SettingsFault.SettingsFault}
use Rattle.koth_replay.specs.{Replay.{IsReplay, ReplayParts, begun, turns_in}, Story.IsStory, declared.story.Story.Story}
use Rattle.koth_words.specs.declared.requests.{Form.Form, Round.Round, View.View}
use Rattle.koth_commands.specs.{Answer.EndsGiven, Pair.IsWarriorOf, Streams.Streams, declared.status.Status.Status}
use Rattle.koth_rounds.specs.{Asked.{IsShown, ShowsNone, with_round}, Ends.EndsShown, Turns.turns_text}

-- the first turn that is written, of `count`, counted from 0: all are, or the last ones
abbrev pub first_written : Option ℕ → ℕ → ℕ
first_written None count = 0
first_written (Some last) count = count - last

-- the text has the turns of that round of the match of these warriors, counted from 1: all of them, or the last ones,
-- each with what it changed. Its last turn says who changed last what the loser executed there
pub record IsTraceText (s : RawSettings) (older younger : WarriorParts) (round : ℕ) (last : Option ℕ) (form : Form) (text : List ℕ) : Type 0 where
  pub replay : ReplayParts
  pub story : Story
  pub plays : IsReplay s older younger (round - 1) (2 * s.cycles) replay
  pub whole : length replay.turns ≡ turns_in s older younger (round - 1)
  pub ends : IsStory s older younger (round - 1) story
  pub tells : text ≡ turns_text form s.core (begun s older younger (round - 1)) replay.turns story (first_written last (length replay.turns))

-- the turns of the match of two warriors whose sources assemble
pub record IsTraced (s : RawSettings) (round : Round) (last : Option ℕ) (form : Form) (text note : List ℕ) : Type 0 where
  pub older : WarriorParts
  pub younger : WarriorParts
  pub older_comes : IsWarriorOf s older
  pub younger_comes : IsWarriorOf s younger
  pub number : ℕ
  pub asked : IsShown s older younger round number
  pub turns : IsTraceText s older younger number last form text
  pub silent : note ≡ []

-- how a source that is refused is written beside such turns
abbrev pub view_of : Form → View
view_of Form.Text = View.Plain
view_of Form.Json = View.Json

-- how `trace` ends under settings, by what the output and then standard error hold before and after
abbrev pub EndsTraceUnder : RawSettings → Round → Bool → Option ℕ → Form → Status → Option (List ℕ) → Option (List ℕ) → Option (List ℕ) → Option (List ℕ) → Type 0
EndsTraceUnder s round defines last form status o p e f = EndsShown s (view_of form) (IsTraced s round last form) (ShowsNone s round defines) status o p e f

-- how `trace` of this round ends, with a definition or without: as under the settings that are given, with their refusal, also if their match doesn't
-- have the round, or out of memory
abbrev pub EndsTrace : Round → Bool → Option ℕ → Form → Result RawSettings SettingsFault → Status → Streams → Streams → Type 0
EndsTrace round defines last form settings status before after =
    EndsGiven (λ s end u v. EndsTraceUnder s round defines last form end u.output v.output u.errors v.errors) (with_round round settings) status before after
