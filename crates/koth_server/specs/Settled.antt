-- The settings under which a command is carried out.
use Rattle.std.specs.{Prelude.{◌≡◌, ◌⊎◌, Bool, true, false, Option, None, Some, List, codes, is_some, ⊤}, Option.option_map_or, Io.KnownBytes.Keeps}
use Rattle.{clap.specs.Words.{Row, first_of}, war_types.specs.{Settings.AreSettings, declared.settings.RawSettings.RawSettings}}
use Rattle.koth_words.specs.{Settings.{base_in, chosen_in, given_as, over}, declared.settings.{Chosen.Chosen, Given.Given}}
use Rattle.{koth_commands.specs.{Streams.Streams, Trouble.Tells, declared.{status.Status.Status, trouble.Trouble.Trouble}}, koth_files.specs.Trouble.IsOfHill}

-- these are the settings that are given: those of the preset or the default ones, or if a hill is named those of some
-- hill, with what options give in place of theirs
abbrev pub AreGiven : Bool → RawSettings → Chosen → RawSettings → Type 0
AreGiven false base chosen settings = settings ≡ over base chosen
AreGiven true base chosen settings = (hill : RawSettings) × AreSettings hill × (settings ≡ over (given_as hill) chosen)

-- the hill that is named can't be read: that was reported, nothing was read from the input, and nothing was written on
-- the output
pub record TellsNoHill (status : Status) (before after : Streams) : Type 0 where
  pub trouble : Trouble
  pub of_hill : IsOfHill trouble
  pub input : Keeps before.input after.input
  pub output : Keeps before.output after.output
  pub told : Tells trouble status before.errors after.errors

-- how a command ends: as it does under settings that are given, or with the fault of the hill that is named
abbrev pub EndsUnderGiven : Bool → RawSettings → Chosen → (RawSettings → Type 0) → Status → Streams → Streams → Type 0
EndsUnderGiven like base chosen ends status before after =
    ((settings : RawSettings) × AreGiven like base chosen settings × ends settings) ⊎ ((like ≡ true) × TellsNoHill status before after)

-- the same by the words that give the settings
abbrev pub EndsBy : List Row → (RawSettings → Type 0) → Status → Streams → Streams → Type 0
EndsBy rows ends status before after = EndsUnderGiven (is_some (first_of (codes "like") rows)) (base_in rows) (chosen_in rows) ends status before after

-- the same by what a request gives, if its command takes settings
abbrev pub EndsSettled : Option Given → (RawSettings → Type 0) → Status → Streams → Streams → Type 0
EndsSettled None ends status before after = (settings : RawSettings) × ends settings
EndsSettled (Some given) ends status before after = EndsUnderGiven (is_some given.like) given.base given.chosen ends status before after

-- a hill is named for the settings
abbrev pub names_hill : Option Given → Bool
names_hill given = option_map_or (λ g. is_some g.like) given false

-- these are the settings that a request gives, if it gives any
abbrev pub AreSettled : Option Given → RawSettings → Type 0
AreSettled None settings = ⊤
AreSettled (Some given) settings = AreGiven (is_some given.like) given.base given.chosen settings
