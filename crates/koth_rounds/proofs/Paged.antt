-- An answer whose page is put into a file.
use Rattle.std.proofs.Common.{◌≡◌, Bool, true, List, ℕ, refl, sym, subst}
use Rattle.{war_types.specs.declared.settings.RawSettings.RawSettings, koth_words.specs.declared.requests.{Round.Round, View.View}}
use Rattle.koth_commands.specs.{Answer.AnswerParts, declared.status.Status.Status}
use Rattle.koth_rounds.specs.{Asked.HasNone, Ends.{AnswersAs, IsAnswer}, Replay.{IsPage, IsWatched, page_left, with_page}}

module _ (s : RawSettings) (round : Round) where
  paged_as : (named : Bool) (status : Status) (text note : List ℕ) → AnswersAs s View.Plain (IsWatched s round) (HasNone s round) status text note
      → AnswersAs s View.Plain (IsPage s round named) (HasNone s round) status (page_left named status text) note
  paged_as true Status.Done text note page = ((text, page), refl)
  paged_as named status text note answers = answers

  pub paged : (named : Bool) (a put : AnswerParts) → put ≡ with_page named a → IsAnswer s View.Plain (IsWatched s round) (HasNone s round) a
      → IsAnswer s View.Plain (IsPage s round named) (HasNone s round) put
  paged named a put is answers =
      subst (IsAnswer s View.Plain (IsPage s round named) (HasNone s round)) (sym is) (paged_as named a.status a.text a.note answers)
