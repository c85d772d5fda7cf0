-- What became of a submission: what stands after the line of its reply.
use Rattle.std.specs.Prelude.{ℕ, List, [], ◌++◌, Option, None, Some}
use Rattle.{koth_hill.specs.{Kept.Kept, declared.verdict.Verdict.Verdict}, hill_store.specs.declared.reply.Reply.Reply}
use Rattle.koth_views.specs.{declared.entrants.Entered.Entered, Fallen.fallen_view, Placed.{fell_text, placed_text}}
use Rattle.{koth_words.specs.declared.requests.View.View, koth_hills.specs.Json.settled_lines}

-- for people, that a warrior fell, and its matches with all on the hill, by its verdict
abbrev pub fell_view : ℕ → ℕ → Kept → Option Verdict → List ℕ
fell_view entry score new None = []
fell_view entry score new (Some judged) = fell_text entry score ++ fallen_view new judged.bouts

-- for people, what a reply says, by who was on the hill before it, the hill after it, and the verdict of the
-- submission: nothing if no warrior was judged
abbrev pub outcome_view : List Entered → Kept → Reply → Option Verdict → List ℕ
outcome_view before new (Reply.Placed entry rank score) judged = placed_text before new (record { entry = entry; rank = rank; score = score })
outcome_view before new (Reply.Fell entry score) judged = fell_view entry score new judged
outcome_view before new (Reply.Refused fault) judged = []
outcome_view before new Reply.Memory judged = []
outcome_view before new Reply.Worn judged = []
outcome_view before new Reply.Disk judged = []
outcome_view before new Reply.Reopen judged = []

-- what stands after the line of a reply: for people that, or lines of JSON
abbrev pub placing_view : View → List Entered → Kept → Reply → Option Verdict → List ℕ
placing_view View.Plain before new reply judged = []
placing_view View.Table before new reply judged = outcome_view before new reply judged
placing_view View.Json before new reply judged = settled_lines new reply judged
