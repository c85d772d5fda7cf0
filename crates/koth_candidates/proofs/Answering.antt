-- One candidate more: for `answers` and `candidates`.
use Rattle.std.proofs.Common.{◌≡◌, inl, inr, ℕ, ◌+◌, ◌*◌, ◌<◌, ◌≤◌, List, [], ◌∷◌, ◌++◌, map, take, length, get_or, All, Option, None, Some, Result, Ok, Err, false, Vec, IfOk, refl, sym, ap, ap₂, subst, ◌∙◌, append-nil, append_assoc, arith}
use Rattle.std.{specs.{Io.KnownBytes.{Appends, Consumes, IsAtEnd, Keeps}, List.flat_map}, proofs.{KnownBytes.{Appends-nil, Appends-trans, Consumes-nil, Consumes-trans, Keeps-refl, Keeps-trans}, lemmas.List.{map_push, take_more, Concat.flat_map-append, Elements.{All-nil, All-push}, Sums.fold_push}}}
use Rattle.war_types.specs.{Warrior.WarriorParts, declared.settings.RawSettings.RawSettings}
use Rattle.koth_text.specs.{Written.WritesPart, declared.tally.Tally.Tally}
use Rattle.koth_commands.{specs.{Told.{TellsWord, WritesSome}, Trouble.{IsReadFault, Tells, fault_status, fault_word, no_memory}, declared.{status.Status.Status, trouble.{Fault.Fault, Trouble.Trouble}}}, proofs.Told.{behind, kept_part, nothing_more, whole_part, writes_more, keeps_some}}
use Rattle.koth_contests.specs.{Contest.{added, contest_tally, no_rounds}, Lines.Entrant, Met.EndsLine}
use Rattle.koth_field.specs.{Field.{EndsField, entrant_of, entrants_of}, declared.field.Member.Member}
use Rattle.koth_candidates.specs.{Answers.{answer_of, answers_of, sum_against}, Candidates.{Answers, AnswersInput, AreSent, Candidate, EndsAnswers, NoField, bytes_of, sources_of}, Sources.{IsSent, TakesSource}}

-- the rounds against one opponent more
pub sum_more : {A : Type 0} (s : RawSettings) (warrior : WarriorParts) (members : List (Member A)) (i : ℕ) (m : Member A) → i < length members → m ≡ get_or members i m
    → added (sum_against s warrior (entrants_of (take i members))) (contest_tally s false warrior m.warrior) ≡ sum_against s warrior (entrants_of (take (i + 1) members))
sum_more {A} s warrior members i m within is =
    let f = λ (sum : Tally) (e : Entrant). added sum (contest_tally s false warrior e.warrior) in
    sym (ap (λ l. sum_against s warrior (entrants_of l)) (take_more members i m within ∙ ap (λ x. take i members ++ x ∷ []) (sym is))
    ∙ ap (sum_against s warrior) (map_push (λ (x : Member A). entrant_of x) (take i members) m)
    ∙ fold_push f no_rounds (entrants_of (take i members)) (entrant_of m))

-- the candidates so far were answered
pub record SoFar (s : RawSettings) (opponents : List Entrant) (i j o p e f : Option (List ℕ)) : Type 0 where
  pub candidates : List Candidate
  pub sent : AreSent candidates
  pub taken : Consumes i j (bytes_of candidates)
  pub written : Appends o p (answers_of s opponents (sources_of candidates))
  pub kept : Keeps e f

told_after : (word : List ℕ) (b e f : Option (List ℕ)) → Keeps b e → TellsWord word e f → TellsWord word b f
told_after word b e f kept told = record { apart = told.apart; text = told.text; written = behind b e f [] _ (nothing_more b e kept) told.written }

module _ (s : RawSettings) (opponents : List Entrant) where
  pub none_so_far : (i o e : Option (List ℕ)) → SoFar s opponents i i o o e e
  none_so_far i o e = record { candidates = []; sent = All-nil (λ (c : Candidate). IsSent c.bytes c.source); taken = Consumes-nil i; written = Appends-nil o; kept = Keeps-refl e }

  module _ (i j o p e f : Option (List ℕ)) (so_far : SoFar s opponents i j o p e f) where
    with_rest : (k : Option (List ℕ)) (rest : List ℕ) → Consumes j k rest → Answers s opponents so_far.candidates rest i k
    with_rest k rest more = record { sent = so_far.sent; taken = Consumes-trans i j k (bytes_of so_far.candidates) rest so_far.taken more }

    pub at_end : (k : Option (List ℕ)) → Consumes j k [] → IsAtEnd k → EndsAnswers s opponents Status.Done i k o p e f
    at_end k none end = (so_far.candidates, with_rest k [] none, end, so_far.written, so_far.kept)

    pub cut : (k g : Option (List ℕ)) (rest : List ℕ) → Consumes j k rest → WritesSome f g → EndsAnswers s opponents Status.Refused i k o p e g
    cut k g rest more told = (so_far.candidates, (rest, with_rest k rest more), so_far.written, writes_more e f g (keeps_some e f so_far.kept) told)

    part_so_far : WritesPart o p (answers_of s opponents (sources_of so_far.candidates))
    part_so_far = whole_part o p _ _ refl so_far.written

    pub failed : (k g : Option (List ℕ)) (trouble : Trouble) (status : Status) (rest : List ℕ) → Consumes j k rest → IsReadFault trouble → Tells trouble status f g
        → EndsAnswers s opponents status i k o p e g
    failed k g trouble status rest more (inl stream) tells =
        subst (λ t. EndsAnswers s opponents t i k o p e g) (sym (tells.ends ∙ ap fault_status stream))
        (so_far.candidates, (rest, with_rest k rest more), part_so_far, told_after _ e f g so_far.kept (subst (λ x. TellsWord (fault_word x) f g) stream tells.word))
    failed k g trouble status rest more (inr memory) tells =
        let so = subst (λ t. Tells t status f g) memory tells in
        subst (λ t. EndsAnswers s opponents t i k o p e g) (sym so.ends)
        (so_far.candidates, (rest, with_rest k rest more), part_so_far, told_after _ e f g so_far.kept so.word)

    module _ (k q g : Option (List ℕ)) (source : List ℕ) (takes : TakesSource source j k) where
      abbrev candidate : Candidate
      candidate = record { bytes = takes.0; source = source }

      abbrev all : List Candidate
      all = so_far.candidates ++ candidate ∷ []

      all_sent : AreSent all
      all_sent = All-push (λ (c : Candidate). IsSent c.bytes c.source) so_far.candidates candidate so_far.sent takes.1

      all_bytes : bytes_of so_far.candidates ++ takes.0 ≡ bytes_of all
      all_bytes = ap (λ l. bytes_of so_far.candidates ++ l) (sym (append-nil takes.0)) ∙ sym (flat_map-append (λ (c : Candidate). c.bytes) so_far.candidates (candidate ∷ []))

      all_answers : answers_of s opponents (sources_of so_far.candidates) ++ answer_of s opponents source ≡ answers_of s opponents (sources_of all)
      all_answers =
          ap (λ l. answers_of s opponents (sources_of so_far.candidates) ++ l) (sym (append-nil (answer_of s opponents source)))
          ∙ sym (flat_map-append (answer_of s opponents) (sources_of so_far.candidates) (source ∷ []))
          ∙ ap (answers_of s opponents) (sym (map_push (λ (c : Candidate). c.source) so_far.candidates candidate))

      all_taken : Consumes i k (bytes_of all)
      all_taken = subst (Consumes i k) all_bytes (Consumes-trans i j k (bytes_of so_far.candidates) takes.0 so_far.taken takes.2)

      pub one_more : Appends p q (answer_of s opponents source) → Keeps f g → SoFar s opponents i k o q e g
      one_more written kept = record {
        candidates = all;
        sent = all_sent;
        taken = all_taken;
        written = subst (Appends o q) all_answers (Appends-trans o p q _ _ so_far.written written);
        kept = Keeps-trans e f g so_far.kept kept;
      }

      answers : Answers s opponents all [] i k
      answers = record { sent = all_sent; taken = subst (Consumes i k) (sym (append-nil (bytes_of all))) all_taken }

      part : WritesPart p q (answer_of s opponents source) → WritesPart o q (answers_of s opponents (sources_of all))
      part is = subst (WritesPart o q) all_answers (behind o p q _ _ so_far.written is)

      pub line_failed : (status : Status) → (status ≡ Status.Done → ⊥) → EndsLine (answer_of s opponents source) status p q f g → EndsAnswers s opponents status i k o q e g
      line_failed Status.Done other ends = absurd (other refl)
      line_failed Status.StreamFault other (written, told) = (all, ([], answers), part written, told_after _ e f g so_far.kept told)
      line_failed Status.NoMemory other (same, told) = (all, ([], answers), part (kept_part p q _ same), told_after _ e f g so_far.kept told)
      line_failed status other ends = absurd ends

-- memory ran out before the first candidate
pub none_answered : (s : RawSettings) (opponents : List Entrant) (trouble : Trouble) (status : Status) (o e f : Option (List ℕ)) → trouble ≡ no_memory
    → Tells trouble status e f → AnswersInput s opponents status o o e f
none_answered s opponents trouble status o e f is tells =
    (None, (None, failed s opponents None None o o e e (none_so_far s opponents None o e) None f trouble status [] (Consumes-nil None) (inr is) tells))

-- an opponent has no warrior
pub no_field : (s : RawSettings) (files : List (List ℕ)) (opponents : List Entrant) (status : Status) (o e f : Option (List ℕ)) → (status ≡ Status.Done → ⊥)
    → EndsField s files opponents status e f → NoField status o o e f
no_field s files opponents Status.Done o e f other ends = absurd (other refl)
no_field s files opponents Status.Refused o e f other ends = (inl refl, Keeps-refl o, ends.1)
no_field s files opponents Status.NoMemory o e f other (mid, some, told) = (inr refl, Keeps-refl o, writes_more e mid f some (_, told.written))
no_field s files opponents status o e f other ends = absurd ends

-- memory ran out before the opponents were found
pub none_found : (trouble : Trouble) (status : Status) (o e f : Option (List ℕ)) → trouble ≡ no_memory → Tells trouble status e f → NoField status o o e f
none_found trouble status o e f is tells =
    let so = subst (λ t. Tells t status e f) is tells in
    (inr so.ends, Keeps-refl o, (_, so.word.written))
