-- How the command `rank` ends.
use Rattle.std.specs.{Prelude.{◌≡◌, ◌⊎◌, ◌<◌, ℕ, Bool, true, false, if◌then◌else◌, Option, None, List, length, Result}, Io.KnownBytes.{Appends, Keeps}}
use Rattle.war_types.specs.{declared.settings.RawSettings.RawSettings, declared.settings.SettingsFault.SettingsFault}
use Rattle.koth_words.specs.declared.requests.{Ranking.Ranking, Source.Source, View.View}
use Rattle.koth_commands.specs.{Answer.EndsGiven, Streams.Streams, Told.{TellsWord, WritesSome}, Trouble.fault_word, declared.{status.Status.Status, trouble.Fault.Fault}}
use Rattle.koth_contests.specs.{Lines.Entrant, Met.{Notes, TellsAfter}, Opponents.AreFiles}
use Rattle.{koth_field.specs.Field.IsField, koth_rank.specs.{Table.{BeginsText, IsText}, declared.plan.Plan.Plan}}

-- no field has more sources
abbrev pub most_sources : ℕ
most_sources = 10000

-- and none whose matches are told one by one
abbrev pub most_told : ℕ
most_told = 100

abbrev pub most_of : Plan → ℕ
most_of plan = if plan.matches then most_told else most_sources

-- the text of the field of these files is written whole
abbrev pub WritesText : RawSettings → Plan → List (List ℕ) → Bool → Option (List ℕ) → Option (List ℕ) → Type 0
WritesText s plan files whole o p =
    (entrants : List Entrant) × IsField s files whole entrants × ((text : List ℕ) × IsText s plan entrants text × Appends o p text)

-- a part of it is written
abbrev pub WritesPartly : RawSettings → Plan → List (List ℕ) → Option (List ℕ) → Option (List ℕ) → Type 0
WritesPartly s plan files o p =
    (entrants : List Entrant) × ((whole : Bool) × IsField s files whole entrants) × BeginsText s plan entrants o p

-- how `rank` of the field of these files ends, by what the output and then standard error hold before and after: with
-- its text; or the same of the warriors that there are, where standard error says why a file has none; or a part of
-- the text is written, since the output failed or memory ran out
abbrev pub EndsSources : RawSettings → Plan → List (List ℕ) → Status → Option (List ℕ) → Option (List ℕ) → Option (List ℕ) → Option (List ℕ) → Type 0
EndsSources s plan files Status.Done o p e f = WritesText s plan files true o p × Notes plan.terms.view e f
EndsSources s plan files Status.Refused o p e f = WritesText s plan files false o p × WritesSome e f
EndsSources s plan files Status.WordFault o p e f = ⊥
EndsSources s plan files Status.StreamFault o p e f = WritesPartly s plan files o p × TellsAfter (fault_word Fault.Stream) e f
EndsSources s plan files Status.NoMemory o p e f = (WritesPartly s plan files o p ⊎ Keeps o p) × TellsAfter (fault_word Fault.Memory) e f

-- the files are more than a field may have: that is told, and nothing is written on the output
abbrev pub RefusesMany : Plan → List (List ℕ) → Status → Option (List ℕ) → Option (List ℕ) → Option (List ℕ) → Option (List ℕ) → Type 0
RefusesMany plan files status o p e f = (most_of plan < length files) × (status ≡ Status.Refused) × Keeps o p × WritesSome e f

-- how `rank` of the field of these words ends under settings: as that of the files for which they stand, which are not
-- too many; or with these; or out of memory, before anything was read
abbrev pub EndsRankUnder : RawSettings → Plan → List Source → Status → Option (List ℕ) → Option (List ℕ) → Option (List ℕ) → Option (List ℕ) → Type 0
EndsRankUnder s plan words status o p e f =
    ((files : List (List ℕ)) × AreFiles words files × (EndsSources s plan files status o p e f ⊎ RefusesMany plan files status o p e f))
    ⊎ ((status ≡ Status.NoMemory) × Keeps o p × TellsWord (fault_word Fault.Memory) e f)

-- what is fought and told by these words, in this view
abbrev pub plan_of : Ranking → View → Plan
plan_of ranking view = record { terms = record { both = ranking.both; view = view }; matches = ranking.matches; share = ranking.part }

-- how `rank` ends in this view: as under the settings that are given, with their refusal, or out of memory
abbrev pub EndsRank : Ranking → View → Result RawSettings SettingsFault → Status → Streams → Streams → Type 0
EndsRank ranking view settings status before after =
    EndsGiven (λ s end u v. EndsRankUnder s (plan_of ranking view) ranking.field.items end u.output v.output u.errors v.errors)
    settings status before after

-- how the command ends whose field lacks a source's warrior: as refused, unless what came after that failed
abbrev pub refused_after : Status → Status
refused_after Status.Done = Status.Refused
refused_after ranked = ranked
