-- How a command of a round ends whose answer was delivered.
use Rattle.std.proofs.Common.{◌≡◌, inl, inr, ℕ, List, [], Option, None, Some, Result, Ok, Err, MatchResult, refl, sym, ap, subst, ◌∙◌, ◌∷◌, ◌++◌, append-nil}
use Rattle.{std.specs.Io.KnownBytes.{Appends, Keeps}, war_types.specs.declared.settings.RawSettings.RawSettings}
use Rattle.{koth_text.specs.Written.WritesPart, koth_words.specs.declared.requests.View.View}
use Rattle.koth_commands.specs.{Answer.{AnswerParts, Delivers, answer_parts}, Told.{TellsWord}, Trouble.{IsReadFault, Tells, fault_status, fault_word}}
use Rattle.koth_commands.specs.declared.{status.Status.Status, trouble.{Fault.Fault, Trouble.Trouble}}
use Rattle.{koth_contests.specs.Pair.{AnswersAs as AnswersMatch, IsAnswer as IsMatchAnswer}, koth_rounds.specs.Ends.{AnswersAs, EndsShown, IsAnswer}}

-- contents that grow by no bytes stay
stays : (a b : Option (List ℕ)) (bytes : List ℕ) → bytes ≡ [] → Appends a b bytes → Keeps a b
stays None b bytes is same = tt
stays (Some xs) None bytes is same = same
stays (Some xs) (Some ys) bytes is same = same ∙ subst (λ l. xs ++ l ≡ xs) (sym is) (append-nil xs)

none_first : (part rest : List ℕ) → [] ≡ part ++ rest → part ≡ []
none_first [] rest is = refl
none_first (x ∷ part) rest is = cc

-- contents that grow by a part of no bytes stay
nothing_written : (a b : Option (List ℕ)) → WritesPart a b [] → Keeps a b
nothing_written a b w = stays a b w.part (none_first w.part w.rest w.split) w.written

module _ (s : RawSettings) (view : View) (IsTold : List ℕ → List ℕ → Type 0) (IsNothing : Type 0) where
  -- if there is no match, the answer is the same whatever would be told of one
  none_as : (IsOther : Type 0) → (IsOther → IsNothing) → (status : Status) (text note : List ℕ) → AnswersMatch s view (λ t. ⊥) IsOther status text note
      → AnswersAs s view IsTold IsNothing status text note
  none_as IsOther so Status.Done text note answers = absurd answers.0
  none_as IsOther so Status.Refused text note (inl refused) = inl refused
  none_as IsOther so Status.Refused text note (inr nothing) = inr (so nothing.0, nothing.1)
  none_as IsOther so status text note answers = absurd answers

  pub answers_none : (IsOther : Type 0) → (IsOther → IsNothing) → (r : Result AnswerParts Trouble) → MatchResult r (IsMatchAnswer s view (λ t. ⊥) IsOther) IsReadFault
      → MatchResult r (IsAnswer s view IsTold IsNothing) IsReadFault
  answers_none IsOther so (Ok a) is = none_as IsOther so a.status a.text a.note is
  answers_none IsOther so (Err trouble) is = is

  -- there is nothing to write, for one of more reasons
  also_as : (IsOther : Type 0) → (IsOther → IsNothing) → (status : Status) (text note : List ℕ) → AnswersAs s view IsTold IsOther status text note
      → AnswersAs s view IsTold IsNothing status text note
  also_as IsOther so Status.Done text note told = told
  also_as IsOther so Status.Refused text note (inl refused) = inl refused
  also_as IsOther so Status.Refused text note (inr nothing) = inr (so nothing.0, nothing.1)
  also_as IsOther so status text note answers = absurd answers

  pub answers_also : (IsOther : Type 0) → (IsOther → IsNothing) → (r : Result AnswerParts Trouble) → MatchResult r (IsAnswer s view IsTold IsOther) IsReadFault
      → MatchResult r (IsAnswer s view IsTold IsNothing) IsReadFault
  answers_also IsOther so (Ok a) is = also_as IsOther so a.status a.text a.note is
  answers_also IsOther so (Err trouble) is = is

  module _ (o p e f : Option (List ℕ)) where
    whole_ends : (status : Status) (text note : List ℕ) → AnswersAs s view IsTold IsNothing status text note → Appends o p text → WritesPart e f note
        → EndsShown s view IsTold IsNothing status o p e f
    whole_ends Status.Done text note told whole part = (text, note, told, whole, part)
    whole_ends Status.Refused text note (inl refused) whole part = (inl (text, refused, whole), (note, part))
    whole_ends Status.Refused text note (inr (nothing, none)) whole part = (inr (nothing, stays o p text none whole), (note, part))
    whole_ends status text note answers whole part = absurd answers

    part_ends : (status : Status) (text note : List ℕ) → AnswersAs s view IsTold IsNothing status text note → WritesPart o p text
        → TellsWord (fault_word Fault.Stream) e f → EndsShown s view IsTold IsNothing Status.StreamFault o p e f
    part_ends Status.Done text note told part word = (inr (inl (text, note, told, part)), word)
    part_ends Status.Refused text note (inl refused) part word = (inr (inr (text, refused, part)), word)
    part_ends Status.Refused text note (inr (nothing, none)) part word = (inl (nothing_written o p (subst (WritesPart o p) none part)), word)
    part_ends status text note answers part word = absurd answers

    trouble_ends : (trouble : Trouble) (status : Status) → IsReadFault trouble → Keeps o p → Tells trouble status e f
        → EndsShown s view IsTold IsNothing status o p e f
    trouble_ends trouble status (inl stream) kept told =
        subst (λ t. EndsShown s view IsTold IsNothing t o p e f) (sym (told.ends ∙ ap fault_status stream))
        (inl kept, subst (λ w. TellsWord (fault_word w) e f) stream told.word)
    trouble_ends trouble status (inr memory) kept told =
        let so = subst (λ t. Tells t status e f) memory told in
        subst (λ t. EndsShown s view IsTold IsNothing t o p e f) (sym so.ends) (kept, so.word)

    pub delivered_ends : (done : Result AnswerParts Trouble) (status : Status) → MatchResult done (IsAnswer s view IsTold IsNothing) IsReadFault
        → Delivers done status o p e f → EndsShown s view IsTold IsNothing status o p e f
    delivered_ends (Ok a) status is (inl whole) =
        subst (λ t. EndsShown s view IsTold IsNothing t o p e f) (sym whole.0) (whole_ends a.status a.text a.note is whole.1 whole.2)
    delivered_ends (Ok a) status is (inr part) =
        subst (λ t. EndsShown s view IsTold IsNothing t o p e f) (sym part.0) (part_ends a.status a.text a.note is part.1 part.2)
    delivered_ends (Err trouble) status is (kept, told) = trouble_ends trouble status is kept told
