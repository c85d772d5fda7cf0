-- What the command `fight` writes, and how it ends.
use Rattle.std.specs.Prelude.{◌≡◌, ◌⊎◌, ℕ, Bool, true, false, Option, List, [], ◌∷◌, ◌++◌, Result, codes, decimal, is_some, option_map}
use Rattle.war_types.specs.{Warrior.WarriorParts, declared.settings.RawSettings.RawSettings, declared.settings.SettingsFault.SettingsFault}
use Rattle.{koth_match.specs.{Match.match_of, declared.bout.Bout.Bout}, koth_text.specs.{Bout.bout_view, Tally.of_older}, koth_words.specs.declared.requests.{Fighters.Fighters, Source.Source, View.View}}
use Rattle.koth_commands.specs.{Answer.EndsGiven, Pair.IsWarriorOf, Streams.{Streams, is_input, source_name}, declared.status.Status.Status}
use Rattle.koth_contests.specs.{Lines.{Entrant, contender, contest_line, entrant}, Met.EndsMeetings, Opponents.AreFiles, Pair.{EndsMatch, TakesBoth}, Rounds.IsEach, declared.meeting.Terms.Terms}

-- the line of a match: rounds that the older won, that the younger won, and ties
abbrev pub bout_line : Bout → List ℕ
bout_line b = decimal b.older_wins ++ codes " " ++ decimal b.younger_wins ++ codes " " ++ decimal b.ties ++ codes "\n"

-- the text of the counts of a match of two warriors
abbrev pub bout_text : View → Entrant → Entrant → Bout → List ℕ
bout_text View.Plain older younger b = bout_line b
bout_text View.Table older younger b = bout_view older.warrior younger.warrior b
bout_text View.Json older younger b = contest_line View.Json (contender older) (contender younger) (of_older b)

-- the text of the match of two warriors: its counts, or each of its rounds
abbrev pub IsToldOf : RawSettings → Bool → View → Entrant → Entrant → List ℕ → Type 0
IsToldOf s false view older younger text = text ≡ bout_text view older younger (match_of s older.warrior younger.warrior)
IsToldOf s true view older younger text = IsEach s view older.warrior younger.warrior text

-- the text of the match of the warriors of these two sources, if both assemble
pub record IsFought (s : RawSettings) (first second : Source) (each : Bool) (view : View) (text : List ℕ) : Type 0 where
  pub older : WarriorParts
  pub younger : WarriorParts
  pub older_comes : IsWarriorOf s older
  pub younger_comes : IsWarriorOf s younger
  pub tells : IsToldOf s each view (entrant (source_name first) older) (entrant (source_name second) younger) text

-- the same of the sources that were taken, by what the input has left before and after
pub record IsFoughtOf (define : Option (List ℕ)) (s : RawSettings) (first second : Source) (each : Bool) (view : View) (i k : Option (List ℕ)) (text : List ℕ) : Type 0 where
  pub older : WarriorParts
  pub younger : WarriorParts
  pub taken : TakesBoth define s (is_input first) (is_input second) older younger i k
  pub tells : IsToldOf s each view (entrant (source_name first) older) (entrant (source_name second) younger) text

-- how `fight` of one warrior, mine, against many ends, by what the output and then standard error hold before and
-- after: mine meets the opponents that the words stand for, or there is no such warrior, or nothing is assembled for it by
-- this definition, or memory ran out
abbrev pub EndsMany : Option (List ℕ) → RawSettings → Source → List Source → Terms → Status → Option (List ℕ) → Option (List ℕ) → Option (List ℕ) → Option (List ℕ) → Type 0
EndsMany define s first words terms status o p e f =
    ((files : List (List ℕ)) × AreFiles words files
    × ((mine : WarriorParts) × IsWarriorOf s mine × EndsMeetings s terms (entrant (source_name first) mine) files status o p e f))
    ⊎ EndsMatch s terms.view (λ text. ⊥) (is_some define ≡ true) status o p e f

-- whether the match with this opponent alone is told: its rounds are asked for, or there is no other opponent and no
-- match in the other order
abbrev pub IsAlone : Bool → Bool → List Source → Source → Type 0
IsAlone both each words word = (each ≡ true) ⊎ ((words ≡ word ∷ []) × (both ≡ false))

-- whether matches with many may be told: if rounds are asked for, only where there is no opponent
abbrev pub MayBeMany : Bool → List Source → Type 0
MayBeMany each words = each ≡ true → words ≡ []

abbrev pub definition_of : Fighters → Option (List ℕ)
definition_of given = option_map (λ words. words.now) given.define

-- there may be no match: rounds are asked for, maybe of a folder, or a definition is given, maybe of another name
abbrev pub MayBeNoMatch : Fighters → Type 0
MayBeNoMatch given = (given.each ≡ true) ⊎ (is_some given.define ≡ true)

-- how `fight` ends under settings, in this view: with the match of two sources, which is told alone, and if its rounds
-- are asked for or a definition is given maybe with nothing but a note; or with the matches of one against many
abbrev pub EndsFightUnder : RawSettings → Fighters → View → Status → Option (List ℕ) → Option (List ℕ) → Option (List ℕ) → Option (List ℕ) → Type 0
EndsFightUnder s given view status o p e f =
    ((word : Source) × IsAlone given.both given.each given.opponents.items word × EndsMatch s view (IsFought s given.older word given.each view) (MayBeNoMatch given) status o p e f)
    ⊎ (MayBeMany given.each given.opponents.items
    × EndsMany (definition_of given) s given.older given.opponents.items (record { both = given.both; view = view }) status o p e f)

-- how `fight` ends: as under the settings that are given, with their refusal, or out of memory
abbrev pub EndsFight : Fighters → View → Result RawSettings SettingsFault → Status → Streams → Streams → Type 0
EndsFight fighters view settings status before after =
    EndsGiven (λ s end u v. EndsFightUnder s fighters view end u.output v.output u.errors v.errors) settings status before after
