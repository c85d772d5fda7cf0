-- How a command of a match ends whose answer was delivered.
use Rattle.std.proofs.Common.{◌≡◌, inl, inr, ℕ, List, [], Option, Result, Ok, Err, MatchResult, refl, sym, ap, subst, ◌∙◌}
use Rattle.{std.specs.Io.KnownBytes.{Appends, Keeps}, war_types.specs.{declared.fault.AsmFault.AsmFault, declared.settings.RawSettings.RawSettings}}
use Rattle.{koth_text.specs.Written.WritesPart, koth_words.specs.declared.requests.View.View}
use Rattle.{redcode_asm.specs.Assembly.assembly, koth_commands.specs.Pair.IsFaultOf}
use Rattle.koth_commands.specs.{Answer.{AnswerParts, Delivers, IsRefusal, answer_parts}, Told.{TellsWord}, Trouble.{IsReadFault, Tells, fault_status, fault_word, no_memory}}
use Rattle.koth_commands.specs.declared.{status.Status.Status, trouble.{Fault.Fault, Trouble.Trouble}}
use Rattle.koth_contests.specs.Pair.{AnswersAs, EndsMatch, IsAnswer}
use Rattle.koth_contests.proofs.Written.{nothing_written, stays}

-- the answer of a source that is refused
refused_as : (IsOther : Type 0) (s : RawSettings) (view : View) (fault : AsmFault) (a : AnswerParts) → IsFaultOf s fault → IsRefusal view fault a → IsAnswer s view (λ t. ⊥) IsOther a
refused_as IsOther s view fault a comes is =
    subst (λ t. AnswersAs s view (λ x. ⊥) IsOther t a.text a.note) {x = Status.Refused} (sym is.refused) (inl (fault, comes, is.text))

pub refused_answers : (IsOther : Type 0) (s : RawSettings) (view : View) (source : List ℕ) (fault : AsmFault) (r : Result AnswerParts Trouble) → assembly s source ≡ Err fault
    → MatchResult r (IsRefusal view fault) (λ trouble. trouble ≡ no_memory) → MatchResult r (IsAnswer s view (λ t. ⊥) IsOther) IsReadFault
refused_answers IsOther s view source fault (Ok a) comes is = refused_as IsOther s view fault a (record { source = source; comes = comes }) is
refused_answers IsOther s view source fault (Err trouble) comes is = inr is

module _ (s : RawSettings) (view : View) (IsTold : List ℕ → Type 0) (IsNothing : Type 0) where
  -- if there is no match, the answer is the same whatever would be told of one
  none_as : (IsOther : Type 0) → (IsOther → IsNothing) → (status : Status) (text note : List ℕ) → AnswersAs s view (λ t. ⊥) IsOther status text note
      → AnswersAs s view IsTold IsNothing status text note
  none_as IsOther so Status.Done text note answers = absurd answers.0
  none_as IsOther so Status.Refused text note (inl refused) = inl refused
  none_as IsOther so Status.Refused text note (inr nothing) = inr (so nothing.0, nothing.1)
  none_as IsOther so status text note answers = absurd answers

  pub answers_none : (IsOther : Type 0) → (IsOther → IsNothing) → (r : Result AnswerParts Trouble) → MatchResult r (IsAnswer s view (λ t. ⊥) IsOther) IsReadFault
      → MatchResult r (IsAnswer s view IsTold IsNothing) IsReadFault
  answers_none IsOther so (Ok a) is = none_as IsOther so a.status a.text a.note is
  answers_none IsOther so (Err trouble) is = is

  -- the answer if there is nothing to write but a note
  pub nothing_answers : (r : Result AnswerParts Trouble) → MatchResult r (λ a. (a.status ≡ Status.Refused) × (a.text ≡ [])) (λ trouble. trouble ≡ no_memory)
      → IsNothing → MatchResult r (IsAnswer s view IsTold IsNothing) IsReadFault
  nothing_answers (Ok a) (refused, none) nothing = subst (λ t. AnswersAs s view IsTold IsNothing t a.text a.note) (sym refused) (inr (nothing, none))
  nothing_answers (Err trouble) is nothing = inr is

  -- what is told of a match is also told in another sense
  so_as : (IsSo : List ℕ → Type 0) → ((text : List ℕ) → IsTold text → IsSo text) → (status : Status) (text note : List ℕ)
      → AnswersAs s view IsTold IsNothing status text note → AnswersAs s view IsSo IsNothing status text note
  so_as IsSo so Status.Done text note (told, none) = (so text told, none)
  so_as IsSo so Status.Refused text note answers = answers
  so_as IsSo so status text note answers = absurd answers

  pub answers_so : (IsSo : List ℕ → Type 0) → ((text : List ℕ) → IsTold text → IsSo text) → (r : Result AnswerParts Trouble)
      → MatchResult r (IsAnswer s view IsTold IsNothing) IsReadFault → MatchResult r (IsAnswer s view IsSo IsNothing) IsReadFault
  answers_so IsSo so (Ok a) is = so_as IsSo so a.status a.text a.note is
  answers_so IsSo so (Err trouble) is = is

  -- the answer is done, with a text that is told
  pub done_answers : (text : List ℕ) (a : AnswerParts) → a ≡ answer_parts Status.Done text [] → IsTold text → IsAnswer s view IsTold IsNothing a
  done_answers text a is told = subst (IsAnswer s view IsTold IsNothing) (sym is) (told, refl)

  module _ (o p e f : Option (List ℕ)) where
    whole_ends : (status : Status) (text note : List ℕ) → AnswersAs s view IsTold IsNothing status text note → Appends o p text → WritesPart e f note
        → EndsMatch s view IsTold IsNothing status o p e f
    whole_ends Status.Done text note (told, none) whole part = (text, told, whole, nothing_written e f (subst (WritesPart e f) none part))
    whole_ends Status.Refused text note (inl refused) whole part = (inl (text, refused, whole), (note, part))
    whole_ends Status.Refused text note (inr (nothing, none)) whole part = (inr (nothing, stays o p text none whole), (note, part))
    whole_ends status text note answers whole part = absurd answers

    part_ends : (status : Status) (text note : List ℕ) → AnswersAs s view IsTold IsNothing status text note → WritesPart o p text
        → TellsWord (fault_word Fault.Stream) e f → EndsMatch s view IsTold IsNothing Status.StreamFault o p e f
    part_ends Status.Done text note (told, none) part word = (inr (inl (text, told, part)), word)
    part_ends Status.Refused text note (inl refused) part word = (inr (inr (text, refused, part)), word)
    part_ends Status.Refused text note (inr (nothing, none)) part word = (inl (nothing_written o p (subst (WritesPart o p) none part)), word)
    part_ends status text note answers part word = absurd answers

    trouble_ends : (trouble : Trouble) (status : Status) → IsReadFault trouble → Keeps o p → Tells trouble status e f
        → EndsMatch s view IsTold IsNothing status o p e f
    trouble_ends trouble status (inl stream) kept told =
        subst (λ t. EndsMatch s view IsTold IsNothing t o p e f) (sym (told.ends ∙ ap fault_status stream))
        (inl kept, subst (λ w. TellsWord (fault_word w) e f) stream told.word)
    trouble_ends trouble status (inr memory) kept told =
        let so = subst (λ t. Tells t status e f) memory told in
        subst (λ t. EndsMatch s view IsTold IsNothing t o p e f) (sym so.ends) (kept, so.word)

    pub delivered_ends : (done : Result AnswerParts Trouble) (status : Status) → MatchResult done (IsAnswer s view IsTold IsNothing) IsReadFault
        → Delivers done status o p e f → EndsMatch s view IsTold IsNothing status o p e f
    delivered_ends (Ok a) status is (inl whole) =
        subst (λ t. EndsMatch s view IsTold IsNothing t o p e f) (sym whole.0) (whole_ends a.status a.text a.note is whole.1 whole.2)
    delivered_ends (Ok a) status is (inr part) =
        subst (λ t. EndsMatch s view IsTold IsNothing t o p e f) (sym part.0) (part_ends a.status a.text a.note is part.1 part.2)
    delivered_ends (Err trouble) status is (kept, told) = trouble_ends trouble status is kept told
