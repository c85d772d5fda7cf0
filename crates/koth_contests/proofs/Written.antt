-- A line that was delivered.
use Rattle.std.proofs.Common.{◌≡◌, inl, inr, ℕ, List, [], Option, None, Some, Result, Ok, Err, IfOk, Vec, sym, subst, refl, ◌∷◌, ◌++◌, ap, ap₂, ◌∙◌, append-nil}
use Rattle.{std.specs.Io.KnownBytes.{Appends, Keeps}, koth_text.specs.Written.WritesPart}
use Rattle.{war_types.specs.{Warrior.WarriorParts, declared.settings.RawSettings.RawSettings}, koth_text.specs.declared.tally.Tally.Tally}
use Rattle.koth_commands.specs.{Answer.{AnswerParts, Delivers, DeliversText, answer_parts}, Pair.IsWarriorOf, Told.{TellsWord, WritesSome}, Trouble.{IsReadFault, Tells, fault_status, fault_word}}
use Rattle.koth_commands.specs.declared.{status.Status.Status, trouble.Trouble.Trouble}
use Rattle.koth_contests.specs.{Contest.{added, contest_tally}, Met.{EndsLine, EndsMade, IsLineAnswer, Meets, TellsNone, line_against}, declared.meeting.Terms.Terms}
use Rattle.{koth_words.specs.declared.requests.View.View, koth_json.specs.Contest.ContenderParts}
use Rattle.koth_contests.specs.Lines.{Entrant, contest_line}

-- contents that grow by no bytes stay
pub stays : (a b : Option (List ℕ)) (bytes : List ℕ) → bytes ≡ [] → Appends a b bytes → Keeps a b
stays None b bytes is same = tt
stays (Some xs) None bytes is same = same
stays (Some xs) (Some ys) bytes is same = same ∙ subst (λ l. xs ++ l ≡ xs) (sym is) (append-nil xs)

none_first : (part rest : List ℕ) → [] ≡ part ++ rest → part ≡ []
none_first [] rest is = refl
none_first (x ∷ part) rest is = cc

-- contents that grow by a part of no bytes stay
pub nothing_written : (a b : Option (List ℕ)) → WritesPart a b [] → Keeps a b
nothing_written a b w = stays a b w.part (none_first w.part w.rest w.split) w.written

module _ (o p e f : Option (List ℕ)) where
  line_text : (text : List ℕ) (status : Status) → DeliversText (answer_parts Status.Done text []) status o p e f → EndsLine text status o p e f
  line_text text status (inl whole) = subst (λ t. EndsLine text t o p e f) (sym whole.0) (whole.1, nothing_written e f whole.2)
  line_text text status (inr part) = subst (λ t. EndsLine text t o p e f) (sym part.0) (part.1, part.2)

  pub line_made : {A E : Type 0} (line : Result (Vec ℕ A) E) (done : Result AnswerParts Trouble) (status : Status) → IsLineAnswer line done
      → Delivers done status o p e f → EndsMade line status o p e f
  line_made (Ok line) done status is delivered = line_text line.items status (subst (λ d. Delivers d status o p e f) is delivered)
  line_made (Err error) done status is delivered =
      let told = subst (λ d. Delivers d status o p e f) is delivered in
      (told.1.ends, told.0, told.1.word)

  -- how the writing of a line ends if it has this text
  pub line_of : {A E : Type 0} (line : Result (Vec ℕ A) E) (text : List ℕ) (status : Status) → IfOk line (λ l. l.items ≡ text)
      → EndsMade line status o p e f → EndsLine text status o p e f
  line_of (Ok line) text status is ends = subst (λ t. EndsLine t status o p e f) is ends
  line_of (Err error) text status is ends = subst (λ t. EndsLine text t o p e f) (sym ends.0) (ends.1, ends.2)

-- a line has nothing of its warriors but their parts
pub of_contest : {A E : Type 0} (line : Result (Vec ℕ A) E) (view : View) (m mine o other : ContenderParts) (t tally : Tally) → m ≡ mine → o ≡ other
    → t ≡ tally → IfOk line (λ l. l.items ≡ contest_line view m o t) → IfOk line (λ l. l.items ≡ contest_line view mine other tally)
of_contest line view m mine o other t tally is are counts told =
    subst (λ text. IfOk line (λ l. l.items ≡ text)) (ap₂ (λ a b. contest_line view a b t) is are ∙ ap (contest_line view mine other) counts) told

-- ---- how the meeting with an opponent ends

module _ (s : RawSettings) (terms : Terms) (mine : Entrant) (file : List ℕ) (sum new : Tally) (o p e f : Option (List ℕ)) where
  -- it has a warrior, and its line was to be written
  pub meets_with : (other : WarriorParts) (status : Status) → IsWarriorOf s other → new ≡ added sum (contest_tally s terms.both mine.warrior other)
      → EndsLine (line_against s terms mine file (Some other)) status o p e f → Meets s terms mine file sum new status o p e f
  meets_with other Status.Done comes adds (written, kept) = (other, comes, adds, written, kept)
  meets_with other Status.StreamFault comes adds (part, told) = (other, comes, part, told)
  meets_with other Status.NoMemory comes adds ends = ends
  meets_with other status comes adds ends = absurd ends

  -- it has no warrior
  pub meets_none : (status : Status) → new ≡ sum → Keeps o p → TellsNone status e f → Meets s terms mine file sum new status o p e f
  meets_none Status.Refused same kept told = (same, kept, told)
  meets_none Status.NoMemory same kept told = (kept, told)
  meets_none status same kept told = absurd told

-- the trouble for which an opponent has no warrior was told, and memory ran out
pub told_none : (trouble : Trouble) (status : Status) (e f : Option (List ℕ)) → IsReadFault trouble → Tells trouble status e f → status ≡ Status.NoMemory
    → TellsNone Status.NoMemory e f
told_none trouble status e f (inl stream) told is =
    let fails : status ≡ Status.StreamFault = told.ends ∙ ap fault_status stream in
    let no : Status.NoMemory ≡ Status.StreamFault = sym is ∙ fails in
    absurd (cc)
told_none trouble status e f (inr memory) told is = subst (λ (t : Trouble). TellsWord (fault_word t.fault) e f) memory told.word

pub told_some : (word : List ℕ) (e f : Option (List ℕ)) → TellsWord word e f → WritesSome e f
told_some word e f told = (_, told.written)
