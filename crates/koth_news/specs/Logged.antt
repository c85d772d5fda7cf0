-- The lines of a service's log.
use Rattle.std.specs.Prelude.{ℕ, Bool, List, [], ◌∷◌, ◌++◌, Option, None, Some, codes}
use Rattle.war_types.specs.{declared.fault.AsmFault.AsmFault, Fault.kind_name}
use Rattle.koth_news.specs.{declared.key.Key.Key, declared.logged.{Asking.Asking, Judged.Judged, When.When, Whom.Whom}, Objects.{Field, Value, object_line, type_field}}

-- when something happened, and with which peer or browser
abbrev pub WhenParts : Type 0
WhenParts = List ℕ × List ℕ

abbrev pub when_parts : When → WhenParts
when_parts w = (w.time.now, w.peer.now)

abbrev pub when_fields : WhenParts → List Field
when_fields w = (Key.Time, Value.text w.0) ∷ (Key.Peer, Value.text w.1) ∷ []

-- a warrior, by its entry, and whose it is
pub record WhomParts : Type 0 where
  pub entry : ℕ
  pub name : List ℕ
  pub author : List ℕ

abbrev pub whom_parts : Whom → WhomParts
whom_parts w = record { entry = w.entry; name = w.name.now; author = w.author.now }

-- a request, whether that is all of its first line, the status and the length of the answer
pub record AskingParts : Type 0 where
  pub request : List ℕ
  pub whole : Bool
  pub status : ℕ
  pub bytes : ℕ

abbrev pub asking_parts : Asking → AskingParts
asking_parts a = record { request = a.request.now; whole = a.whole; status = a.status; bytes = a.bytes }

-- what happened with a peer or a browser, and how or why
abbrev pub happened_line : WhenParts → List ℕ → List ℕ → List ℕ
happened_line w event words = object_line (type_field event) (when_fields w ++ (Key.Text, Value.text words) ∷ [])

-- what happened with the service itself
abbrev pub noted_line : List ℕ → List ℕ → List ℕ → List ℕ
noted_line time event words = object_line (type_field event) ((Key.Time, Value.text time) ∷ (Key.Text, Value.text words) ∷ [])

-- how many lines were dropped
abbrev pub dropped_line : List ℕ → ℕ → List ℕ
dropped_line time lines = object_line (type_field (codes "dropped")) ((Key.Time, Value.text time) ∷ (Key.Lines, Value.number lines) ∷ [])

-- a request of a browser
abbrev pub asked_line : WhenParts → AskingParts → List ℕ
asked_line w a =
    object_line (type_field (codes "asked")) (
    when_fields w
    ++ (Key.Request, Value.text a.request)
    ∷ (Key.Whole, Value.truth a.whole)
    ∷ (Key.Status, Value.number a.status)
    ∷ (Key.Bytes, Value.number a.bytes)
    ∷ [])

-- a source that is refused
abbrev pub fault_line : WhenParts → AsmFault → List ℕ
fault_line w fault =
    object_line (type_field (codes "refused"))
    (when_fields w ++ (Key.Line, Value.number fault.line) ∷ (Key.Kind, Value.text (kind_name fault.kind)) ∷ [])

-- a submission that was judged
abbrev pub judged_word : Judged → List ℕ
judged_word (Judged.Placed entry rank points) = codes "placed"
judged_word (Judged.Fell entry points) = codes "fell"

abbrev pub judged_fields : Judged → List Field
judged_fields (Judged.Placed entry rank points) =
    (Key.Entry, Value.number entry) ∷ (Key.Rank, Value.number rank) ∷ (Key.Points, Value.number points) ∷ []
judged_fields (Judged.Fell entry points) = (Key.Entry, Value.number entry) ∷ (Key.Points, Value.number points) ∷ []

-- whose it is, if that is known
abbrev pub title_fields : Option WhomParts → List Field
title_fields None = []
title_fields (Some w) = (Key.Name, Value.text w.name) ∷ (Key.Author, Value.text w.author) ∷ []

-- who was pushed off for it
abbrev pub pushed_fields : Option WhomParts → List Field
pushed_fields None = []
pushed_fields (Some w) =
    (Key.Pushed, Value.number w.entry) ∷ (Key.PushedName, Value.text w.name) ∷ (Key.PushedAuthor, Value.text w.author) ∷ []

abbrev pub outcome_line : WhenParts → Judged → Option WhomParts → Option WhomParts → List ℕ
outcome_line w judged whom pushed =
    object_line (type_field (judged_word judged)) (when_fields w ++ judged_fields judged ++ title_fields whom ++ pushed_fields pushed)
