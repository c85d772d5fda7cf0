-- What a browser is answered.
use Rattle.std.specs.Prelude.{◌≡◌, ◌⊎◌, ℕ, Bool, List, Option, Some, Result, Ok, Err, MatchOption, Vec}
use Rattle.koth_http.specs.{Asked.{FindsAsked, IsAsked}, Response.{IsPageResponse, missing, refusal_response}}
use Rattle.koth_http.specs.{declared.asked.Asked.Asked, declared.refusal.Refusal.Refusal, declared.target.Page.Page}

-- What a host has of a hill: the names that its machine has beside its addresses and `localhost`, the texts of its
-- pages, which browsers see, and how many steps the assembly of a source may take.
pub record Site : Type 1 where
  pub names : List (List ℕ)
  pub pages : Page → List ℕ → Type 0
  pub steps : ℕ

-- no text is shown
abbrev pub ShowsNothing : (List ℕ → Type 0) → Type 0
ShowsNothing shows = (text : List ℕ) → ¬ (shows text)

-- what is found of a page: a text that is shown, or none if nothing is
abbrev pub IsFound : {A : Type 0} → (List ℕ → Type 0) → Option (Vec ℕ A) → Type 0
IsFound shows found = MatchOption found (ShowsNothing shows) (λ text. shows text.items)

-- A page that can be asked for is answered by a text that is shown of it, to the request in these bytes, as missing if
-- nothing is shown, or as unavailable if memory ran out. A request that asks for no page is answered by why it doesn't.
abbrev pub IsAnswerTo : (Page → List ℕ → Type 0) → List ℕ → Result Page Refusal → Bool → List ℕ → Type 0
IsAnswerTo shows bytes (Ok page) with_body answer =
    ((text : List ℕ) × shows page text × IsPageResponse bytes page text with_body answer)
    ⊎ ((ShowsNothing (shows page) × (answer ≡ refusal_response (missing page) with_body))
    ⊎ (answer ≡ refusal_response Refusal.Unavailable with_body))
IsAnswerTo shows bytes (Err refusal) with_body answer = answer ≡ refusal_response refusal with_body

abbrev pub IsAnswer : Site → List ℕ → Asked → List ℕ → Type 0
IsAnswer site bytes asked answer = IsAnswerTo site.pages bytes asked.page asked.with_body answer

-- the bytes that came of a browser are answered by what they ask
abbrev pub AnswersBytes : Site → List ℕ → List ℕ → Type 0
AnswersBytes site bytes answer =
    (asked : Asked) × IsAsked site.names bytes (Some asked) × FindsAsked site.names bytes (Some asked)
    × IsAnswer site bytes asked answer
