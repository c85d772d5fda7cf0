-- The page of a round, and what is said of it.
use Rattle.std.specs.Prelude.{◌≡◌, ℕ, ◌-◌, List}
use Rattle.{war_types.specs.{Warrior.WarriorParts, declared.settings.RawSettings.RawSettings}, koth_replay.specs.{Replay.{IsReplay, ReplayParts}, Story.IsStory, declared.story.Story.Story}}
use Rattle.koth_watch.specs.{declared.sentence.Told.Told, declared.shown.Form.Form, Page.round_page, Sentence.sentence_text}
use Rattle.koth_rounds.specs.declared.page.TheConstants.{MOST_TURNS}

-- what is said of a round, counted from 0, that ended so
abbrev pub told_of : RawSettings → ℕ → Story → Told
told_of s place story = record { round = place; rounds = s.rounds; core = s.core; story = story }

-- this is said of a round of the match of these warriors, counted from 1: how it ended, at the end of all of its turns,
-- and why
pub record IsTold (s : RawSettings) (older younger : WarriorParts) (round : ℕ) (told : Told) : Type 0 where
  pub story : Story
  pub ends : IsStory s older younger (round - 1) story
  pub tells : told ≡ told_of s (round - 1) story

-- the text is the page of that round of the match of these warriors: it has the events that draw the round after each
-- turn, and says how the round ended, at the end of all of its turns, and why
pub record IsRoundText (s : RawSettings) (older younger : WarriorParts) (round : ℕ) (text : List ℕ) : Type 0 where
  pub replay : ReplayParts
  pub story : Story
  pub plays : IsReplay s older younger (round - 1) MOST_TURNS replay
  pub ends : IsStory s older younger (round - 1) story
  pub tells : text ≡ round_page older younger (told_of s (round - 1) story) replay

-- the text is the sentence that says how that round ended, and why: it names who changed last what the loser executed
pub record IsSentence (s : RawSettings) (older younger : WarriorParts) (round : ℕ) (text : List ℕ) : Type 0 where
  pub told : Told
  pub ends : IsTold s older younger round told
  pub tells : text ≡ sentence_text Form.Plain older younger told
