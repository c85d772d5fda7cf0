-- The round that is asked for: by its number, or the first that ended in some way.
use Rattle.std.specs.Prelude.{◌≡◌, ◌⊎◌, ℕ, ◌+◌, Bool, true, if◌then◌else◌, Option, None, Some, MatchOption, Result, Ok, Err}
use Rattle.war_types.specs.{Settings.is_from_to, Warrior.WarriorParts, declared.settings.RawSettings.RawSettings, declared.settings.SettingsFault.SettingsFault}
use Rattle.{koth_words.specs.declared.requests.Round.Round, mars_core.specs.declared.round.Outcome.Outcome, koth_commands.specs.Pair.IsWarriorOf, koth_contests.specs.Rounds.IsFirst}

-- whether a match under these settings has the round of this number, counted from 1
abbrev pub has_round : RawSettings → ℕ → Bool
has_round s number = is_from_to 1 s.rounds number

-- whether a match may have the round that is asked for: by its number, if it has that round; by its end, always
abbrev pub may_have : RawSettings → Round → Bool
may_have s (Round.Number number) = has_round s number
may_have s round = true

-- the settings under which that round is shown, if their match may have it
abbrev pub with_round : Round → Result RawSettings SettingsFault → Result RawSettings SettingsFault
with_round round (Ok s) = if may_have s round then Ok s else Err SettingsFault.Rounds
with_round round (Err fault) = Err fault

-- the number of the first round that ended so, counted from 1
abbrev pub IsFirstAt : RawSettings → WarriorParts → WarriorParts → Outcome → ℕ → Type 0
IsFirstAt s older younger wanted number = (at : ℕ) × (number ≡ at + 1) × IsFirst s older younger wanted (Some at)

-- the number of the round that is shown: the number that is asked for, or the number of the first round that ended so
abbrev pub IsShown : RawSettings → WarriorParts → WarriorParts → Round → ℕ → Type 0
IsShown s older younger (Round.Number asked) number = number ≡ asked
IsShown s older younger Round.Lost number = IsFirstAt s older younger Outcome.Second number
IsShown s older younger Round.Won number = IsFirstAt s older younger Outcome.First number
IsShown s older younger Round.Tied number = IsFirstAt s older younger Outcome.Tie number

-- the match has no round that ended as it is asked for
abbrev pub IsUnplayed : RawSettings → WarriorParts → WarriorParts → Round → Type 0
IsUnplayed s older younger (Round.Number number) = ⊥
IsUnplayed s older younger Round.Lost = IsFirst s older younger Outcome.Second None
IsUnplayed s older younger Round.Won = IsFirst s older younger Outcome.First None
IsUnplayed s older younger Round.Tied = IsFirst s older younger Outcome.Tie None

-- the number of the round that is shown, or none if no round ended so
abbrev pub IsNumber : RawSettings → WarriorParts → WarriorParts → Round → Option ℕ → Type 0
IsNumber s older younger round found =
    MatchOption found (IsUnplayed s older younger round) (λ number. IsShown s older younger round number × (has_round s number ≡ true))

-- the number of the first round that ended so, or none
abbrev pub IsFirstNumber : RawSettings → WarriorParts → WarriorParts → Outcome → Option ℕ → Type 0
IsFirstNumber s older younger wanted found = MatchOption found (IsFirst s older younger wanted None)
    (λ number. IsFirstAt s older younger wanted number × (has_round s number ≡ true))

-- the match of two warriors whose sources assemble has no such round
pub record HasNone (s : RawSettings) (round : Round) : Type 0 where
  pub older : WarriorParts
  pub younger : WarriorParts
  pub older_comes : IsWarriorOf s older
  pub younger_comes : IsWarriorOf s younger
  pub none : IsUnplayed s older younger round

-- no round is shown: the match has no such one, or a definition is given, maybe of another name
abbrev pub ShowsNone : RawSettings → Round → Bool → Type 0
ShowsNone s round defines = HasNone s round ⊎ (defines ≡ true)
