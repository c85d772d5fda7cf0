-- A request whose command was performed, and what that came to was delivered: for `fulfil_under`.
use Rattle.std.proofs.Common.{◌≡◌, ℕ, Bool, List, Option, None, IfOk, sym, subst}
use Rattle.{war_types.specs.declared.settings.RawSettings.RawSettings, koth_words.specs.declared.requests.{Request.Request, View.View}}
use Rattle.koth_commands.specs.{Answer.{AnswerParts, Delivers}, Streams.{From, streams}, declared.status.Status.Status}
use Rattle.{koth_keeping.specs.Answers.{Ends, Outcome}, koth_hills.specs.{Hills.{AfterNote, AnswersSource, EndsSource, TellsNote}, Trials.{AnswersTrial, EndsTrial, SaysTrial}}, koth_server.specs.Run.{CommandEnds, EndsRequestUnder}}
use Rattle.koth_server.proofs.{Carried.request_ends, Statuses.{IsNone, delivered}}

module _ (settings : RawSettings) (view : View) (request asked : Request) (status : Status) (i j o p e n f : Option (List ℕ)) (outcome found : Outcome)
    (is : request ≡ asked) (same : outcome ≡ found) (sent : Delivers outcome status o p n f) where
  abbrev EndsSo : Type 0
  EndsSo = CommandEnds settings view asked status (streams i o e) (streams j p f)

  ended : (May : Outcome → Type 0) → ((d : Outcome) → May d → IfOk d IsNone) → May found → EndsSo → EndsRequestUnder settings view request status (streams i o e) (streams j p f)
  ended May words may ends =
      request_ends settings view request asked status (streams i o e) (streams j p f) is ends
      (delivered outcome status o p n f (words outcome (subst May (sym same) may)) sent)

  -- without a note
  pub plain : (May : Outcome → Type 0) → ((d : Outcome) → May d → IfOk d IsNone) → n ≡ e
      → (Ends May status (streams None o e) (streams None p f) → EndsSo) → May found → EndsRequestUnder settings view request status (streams i o e) (streams j p f)
  plain May words unnoted so may =
      ended May words may (so (record { outcome = outcome; may = subst May (sym same) may; delivered = subst (λ x. Delivers outcome status o p x f) unnoted sent }))

  -- after one
  pub noted : (May : Outcome → Type 0) → ((d : Outcome) → May d → IfOk d IsNone) → TellsNote e n
      → (AfterNote (Ends May status) (streams None o e) (streams None p f) → EndsSo) → May found → EndsRequestUnder settings view request status (streams i o e) (streams j p f)
  noted May words note so may =
      ended May words may (so (n, note, record { outcome = outcome; may = subst May (sym same) may; delivered = sent }))

  -- after one, of a source
  pub of_source : (of_input : Bool) (Says : List ℕ → AnswerParts → Type 0) → ((d : Outcome) → From of_input (λ u v. AnswersSource Says u v d) i j → IfOk d IsNone) → TellsNote e n
      → (AfterNote (EndsSource of_input Says status) (streams i o e) (streams j p f) → EndsSo) → From of_input (λ u v. AnswersSource Says u v found) i j
      → EndsRequestUnder settings view request status (streams i o e) (streams j p f)
  of_source of_input Says words note so may =
      let May : Outcome → Type 0 = λ d. From of_input (λ u v. AnswersSource Says u v d) i j in
      ended May words may (so (n, note, record { outcome = outcome; may = subst May (sym same) may; delivered = sent }))

  -- after one, of a source that is tried
  pub of_trial : (of_input : Bool) (define : Option (List ℕ)) (shown : View)
      → ((d : Outcome) → From of_input (λ u v. AnswersTrial define (SaysTrial shown) u v d) i j → IfOk d IsNone) → TellsNote e n
      → (AfterNote (EndsTrial of_input define shown status) (streams i o e) (streams j p f) → EndsSo) → From of_input (λ u v. AnswersTrial define (SaysTrial shown) u v found) i j
      → EndsRequestUnder settings view request status (streams i o e) (streams j p f)
  of_trial of_input define shown words note so may =
      let May : Outcome → Type 0 = λ d. From of_input (λ u v. AnswersTrial define (SaysTrial shown) u v d) i j in
      ended May words may (so (n, note, record { outcome = outcome; may = subst May (sym same) may; delivered = sent }))
