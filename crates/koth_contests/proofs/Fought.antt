-- What is written of a match, and how the commands of many matches end.
use Rattle.std.proofs.Common.{◌≡◌, inl, inr, ℕ, Bool, true, false, List, Option, None, sym, ap, ap₂, subst, ◌∙◌}
use Rattle.{std.proofs.KnownBytes.Keeps-refl, war_types.specs.{Warrior.WarriorParts, declared.settings.RawSettings.RawSettings}}
use Rattle.koth_commands.specs.{Pair.IsWarriorOf, Trouble.{Tells, no_memory}, declared.{status.Status.Status, trouble.Trouble.Trouble}}
use Rattle.{koth_words.specs.declared.requests.{Source.Source, View.View}, koth_match.specs.declared.bout.Bout.Bout, koth_commands.specs.Streams.{From, is_input, source_name}}
use Rattle.koth_contests.specs.{Fight.{EndsMany, IsFought, IsFoughtOf, bout_text}, Lines.entrant, Met.EndsMeetings, Pair.TakesWarrior, Opponents.{AreFiles, names_of}, declared.{meeting.Terms.Terms, opponents.Opponent.Opponent}}

-- the text of the counts of a match has nothing but these values
pub bout_told : (view : View) (older younger : WarriorParts) (first second one two : List ℕ) (bout is : Bout) → first ≡ one → second ≡ two → bout ≡ is
    → bout_text view (entrant first older) (entrant second younger) bout ≡ bout_text view (entrant one older) (entrant two younger) is
bout_told view older younger first second one two bout is at_first at_second same =
    ap₂ (λ a b. bout_text view (entrant a older) (entrant b younger) bout) at_first at_second
    ∙ ap (bout_text view (entrant one older) (entrant two younger)) same

-- a warrior whose source was taken comes of some source
some_source : (define : Option (List ℕ)) (s : RawSettings) (warrior : WarriorParts) (of_input : Bool) (i j : Option (List ℕ))
    → From of_input (TakesWarrior define s warrior) i j → IsWarriorOf s warrior
some_source define s warrior true i j taken = taken.0
some_source define s warrior false i j taken = taken.0.0

pub fought : (define : Option (List ℕ)) (s : RawSettings) (first second : Source) (each : Bool) (view : View) (i k : Option (List ℕ)) (text : List ℕ)
    → IsFoughtOf define s first second each view i k text → IsFought s first second each view text
fought define s first second each view i k text w = record {
  older = w.older;
  younger = w.younger;
  older_comes = some_source define s w.older (is_input first) i w.taken.0 w.taken.1;
  younger_comes = some_source None s w.younger (is_input second) w.taken.0 k w.taken.2;
  tells = w.tells;
}

module _ (define : Option (List ℕ)) (s : RawSettings) (first : Source) (words : List Source) (terms : Terms) (status : Status) where
  pub many_lost : (trouble : Trouble) (o e f : Option (List ℕ)) → trouble ≡ no_memory → Tells trouble status e f → EndsMany define s first words terms status o o e f
  many_lost trouble o e f is told =
      let so = subst (λ t. Tells t status e f) is told in
      subst (λ t. EndsMany define s first words terms t o o e f) (sym so.ends) (inr (Keeps-refl o, so.word))

  pub many_met : {A : Type 0} (given : List Source) (opponents found : List (Opponent A)) (file : List ℕ) (mine : WarriorParts) (o p e f : Option (List ℕ)) → given ≡ words
      → opponents ≡ found → file ≡ source_name first → AreFiles given (names_of found) → IsWarriorOf s mine → EndsMeetings s terms (entrant file mine) (names_of opponents) status o p e f
      → EndsMany define s first words terms status o p e f
  many_met given opponents found file mine o p e f same is called files comes ends = inl (
    names_of opponents,
    subst (λ ws. AreFiles ws (names_of opponents)) same (subst (λ os. AreFiles given (names_of os)) (sym is) files),
    (mine, comes, subst (λ n. EndsMeetings s terms (entrant n mine) (names_of opponents) status o p e f) called ends),
  )
