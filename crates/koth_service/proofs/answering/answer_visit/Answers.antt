-- What is asked of a hill with the host's names is answered.
use Rattle.{std.proofs.Common.{◌≡◌, ℕ, List, Option, Some, subst}, koth_http.specs.{Asked.{FindsAsked, IsAsked}, declared.asked.Asked.Asked}, koth_service.specs.Answering.{AnswersBytes, IsAnswer, Site}}
use Rattle.koth_service.proofs.answering.answer_visit.Goals as goal

answered : (site : Site) (names : List (List ℕ)) (bytes : List ℕ) (found : Option Asked) (asked : Asked) (answer : List ℕ) → names ≡ site.names → found ≡ Some asked
    → IsAsked names bytes found → FindsAsked names bytes found → IsAnswer site bytes asked answer → AnswersBytes site bytes answer
answered site names bytes found asked answer same is said finds answers = (
  asked,
  subst (λ n. IsAsked n bytes (Some asked)) same (subst (λ f. IsAsked names bytes f) is said),
  subst (λ n. FindsAsked n bytes (Some asked)) same (subst (λ f. FindsAsked names bytes f) is finds),
  answers,
)

pub returns-in_ok-answer-in-Some : goal.returns-in_ok-answer-in-Some
returns-in_ok-answer-in-Some g c =
    answered (g.H.Host.shows c.args.host.now c.args.store.now) _ c.args.visit.now c.asked.result c.in-Some.asked _ (c.names.ensures c.args.store.now) c.in-Some.is
    c.asked.ensures.said c.asked.ensures.found c.in_ok-answer-in-Some.ensures
