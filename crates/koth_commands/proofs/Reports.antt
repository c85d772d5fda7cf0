-- The lines of a report, one after another.
use Rattle.std.proofs.{Common.{◌≡◌, ◌∙◌, ◌<◌, ◌+◌, ◌++◌, ◌||◌, ◌&&◌, ℕ, List, [], ◌∷◌, Bool, false, Some, Result, Ok, Err, OnOk, ap, ap₂, append-nil, append_assoc, get_or, length, map, refl, subst, sym, take}, lemmas.List.map_more}
use Rattle.{std.specs.Prelude.{is_err, is_ok, if◌then◌else◌}, war_types.specs.{Warrior.WarriorParts, declared.fault.AsmFault.AsmFault}, redcode_diagnosis.specs.Told.{Tells, TellsAll}, redcode_asm.specs.Assembly.assembly, redcode_warnings.specs.Warnings.Noted}
use Rattle.{war_types.specs.declared.settings.RawSettings.RawSettings, koth_commands.specs.{Answer.answer_parts, declared.status.Status.Status}}
use Rattle.koth_commands.specs.Report.{Manner, AreLines, IsAnswered, IsNoteOf, TellsFound, found_fault, found_warning, has_any, is_refused, status_by, warnings_if}

-- three parts were put, one after another
pub three_put : {T E : Type 0} (result : Result T E) (new last before first a b c : List ℕ) → first ≡ before ++ a → last ≡ first ++ b
    → new ≡ (if is_ok result then last ++ c else last) → OnOk result (new ≡ before ++ (a ++ (b ++ c)))
three_put (Ok value) new last before first a b c one two three =
    three ∙ ap (λ t. t ++ c) (two ∙ ap (λ t. t ++ b) one) ∙ append_assoc (before ++ a) b c ∙ append_assoc before a (b ++ c)
three_put (Err error) new last before first a b c one two three = tt

-- those of two lists, one after the other
lines_both : {X : Type 0} (IsLine : X → List ℕ → Type 0) (xs ys : List X) (text more : List ℕ) → AreLines IsLine xs text → AreLines IsLine ys more
    → AreLines IsLine (xs ++ ys) (text ++ more)
lines_both IsLine [] ys text more none lines = subst (λ t. AreLines IsLine ys (t ++ more)) (sym none) lines
lines_both IsLine (x ∷ xs) ys text more (first, rest, one, others, split) lines =
    (first, rest ++ more, one, lines_both IsLine xs ys rest more others lines, ap (λ t. t ++ more) split ∙ append_assoc first rest more)

pub next_line : {A X : Type 0} (IsLine : X → List ℕ → Type 0) (f : A → X) (found : List A) (i : ℕ) (d : A) (text line new : List ℕ) → i < length found
    → d ≡ get_or found i d → AreLines IsLine (map f (take i found)) text → IsLine (f d) line → new ≡ text ++ line
    → AreLines IsLine (map f (take (i + 1) found)) new
next_line IsLine f found i d text line new within is lines told grown =
    let so_far = map f (take i found) in
    let next : map f (take (i + 1) found) ≡ so_far ++ f d ∷ [] = map_more f found i d within ∙ ap (λ y. so_far ++ f y ∷ []) (sym is) in
    let more = lines_both IsLine so_far (f d ∷ []) text line lines (line, [], told, refl, sym (append-nil line)) in
    subst (λ xs. AreLines IsLine xs new) (sym next) (subst (AreLines IsLine (so_far ++ f d ∷ [])) (sym grown) more)

-- those of what two functions give, one after the other
lines_of_both : {A B X : Type 0} (IsLine : X → List ℕ → Type 0) (g : B → X) (f : A → B) (xs : List A) (text : List ℕ)
    → AreLines IsLine (map (λ x. g (f x)) xs) text → AreLines IsLine (map g (map f xs)) text
lines_of_both IsLine g f [] text none = none
lines_of_both IsLine g f (x ∷ xs) text (line, rest, is, others, split) = (line, rest, is, lines_of_both IsLine g f xs rest others, split)

-- ---- whether it has any

pub any_of : {A X : Type 0} (f : A → X) (xs : List A) → has_any (map f xs) ≡ has_any xs
any_of f [] = refl
any_of f (x ∷ xs) = refl

-- a source is refused if a fault of it is told
pub refused_by : (faults : List AsmFault) (outcome : Result WarriorParts AsmFault) → Tells faults outcome → is_err outcome ≡ has_any faults
refused_by faults (Ok warrior) tells = sym (ap has_any tells)
refused_by faults (Err fault) tells = sym (ap has_any tells.1)

-- ---- the answer

module _ {A B : Type 0} (fault : A → AsmFault) (noted : B → Noted) (s : RawSettings) (how : Manner) (name source : List ℕ) (found read : List A) (warned seen : List B) where
  refused_is : read ≡ found → seen ≡ warned → Tells (map fault found) (assembly s source) → map noted warned ≡ warnings_if how.warnings source
      → (has_any read || (how.deny && has_any seen)) ≡ is_refused s how (Some source)
  refused_is is also tells told =
      ap₂ (λ b d. b || (how.deny && d)) (ap has_any is ∙ sym (any_of fault found) ∙ sym (refused_by (map fault found) (assembly s source) tells))
      (ap has_any also ∙ sym (any_of noted warned) ∙ ap has_any told)

  pub answered : (refused : Bool) (status : Status) (fault_text warning_text text note : List ℕ) → read ≡ found → seen ≡ warned
      → Tells (map fault found) (assembly s source) → TellsAll s source (map fault found) (assembly s source) → map noted warned ≡ warnings_if how.warnings source
      → refused ≡ (has_any read || (how.deny && has_any seen)) → status ≡ status_by false refused
      → AreLines (TellsFound how.form name source) (map (λ d. found_fault (fault d)) read) fault_text
      → AreLines (TellsFound how.form name source) (map (λ w. found_warning (noted w)) seen) warning_text
      → text ≡ fault_text ++ warning_text → IsNoteOf name source note → IsAnswered s how name source (answer_parts status text note)
  answered refused status fault_text warning_text text note is also tells all told refuses ends faults warnings split noted_so =
      let IsLine = TellsFound how.form name source in
      let first = subst (λ l. AreLines IsLine (map found_fault (map fault l)) fault_text) is (lines_of_both IsLine found_fault fault read fault_text faults) in
      let then_told = subst (λ l. AreLines IsLine (map found_warning l) warning_text) (ap (map noted) also ∙ told)
      (lines_of_both IsLine found_warning noted seen warning_text warnings) in
      record {
        status = ends ∙ ap (status_by false) (refuses ∙ refused_is is also tells told);
        report = record {
          faults = map fault found;
          all = all;
          lines = subst (AreLines IsLine _) (sym split) (lines_both IsLine _ _ fault_text warning_text first then_told);
        };
        note = noted_so;
      }
