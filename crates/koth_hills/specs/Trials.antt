-- What `try` answers.
use Rattle.std.specs.Prelude.{◌≡◌, ◌⊎◌, ℕ, Bool, if◌then◌else◌, List, [], Option, Some, Ok, Err}
use Rattle.{war_types.specs.Warrior.WarriorParts, redcode_asm.specs.Assembly.assembly}
use Rattle.{koth_hill.specs.{Kept.Kept, declared.verdict.Verdict.Verdict}, sector_disk.specs.Facts.DeviceFacts}
use Rattle.hill_store.specs.{Earned.kept_reply, Seen.{Seen, Submits}, declared.reply.Reply.Reply}
use Rattle.{koth_words.specs.declared.requests.View.View, koth_views.specs.Fallen.{challenged_view, fallen_view}}
use Rattle.{koth_commands.specs.{Answer.AnswerParts, Define.text_by, Streams.{From, Streams, Takes, TakesSome}, declared.status.Status.Status}, koth_hills.specs.{Hills.{AnswersReply, Told}, Json.{IsDue, IsLineOf, judged_lines}}}
use Rattle.{koth_files.specs.Trouble.IsOfHill, koth_keeping.specs.Answers.{Ends, Outcome}}

-- for people, the matches of a challenger with all on the hill, and if it would fall the least points with which one
-- stays
abbrev pub trial_view : Kept → Verdict → List ℕ
trial_view hill judged = if judged.stays then challenged_view hill judged.bouts else fallen_view hill judged.bouts

-- what stands after the line of the reply: that for people, or its lines of JSON, unless there was no memory for it
abbrev pub IsTrialText : View → Kept → Verdict → List ℕ → Type 0
IsTrialText View.Plain hill judged more = more ≡ []
IsTrialText View.Table hill judged more = (more ≡ []) ⊎ (more ≡ trial_view hill judged)
IsTrialText View.Json hill judged more = (more ≡ []) ⊎ (more ≡ judged_lines hill judged)

-- the reply that a submission of the source to this hill earns, and what is told of it
pub record IsForetold (view : View) (hill : Kept) (source : List ℕ) (reply : Reply) (told : Told) : Type 0 where
  pub judged : Verdict
  pub due : IsDue hill source judged
  pub earned : reply ≡ kept_reply hill source
  pub placed : IsLineOf view hill source reply told.placed
  pub more : IsTrialText view hill judged told.more

-- what a source that is tried on a store is answered: that, or the reply of a submission that changes nothing
abbrev pub IsTrial : {D : Type 0} → DeviceFacts D → Seen D → View → List ℕ → Reply → Told → Type 0
IsTrial facts store view source reply told =
    IsForetold view store.hill source reply told ⊎ (Submits facts store source reply store × (told.more ≡ []))

-- the answer to a source that is tried on a store
abbrev pub Tried : {D : Type 0} → DeviceFacts D → Seen D → List ℕ → View → AnswerParts → Type 0
Tried facts store source view answer =
    (reply : Reply) × (told : Told) × IsTrial facts store view source reply told × AnswersReply view told.placed reply told.more answer

-- a reply without a verdict to a source that is tried on this hill: the refusal that it earns, lack of memory, or for a
-- warrior a worn device
abbrev pub IsUnjudged : Kept → List ℕ → Reply → Type 0
IsUnjudged hill source (Reply.Placed entry rank score) = ⊥
IsUnjudged hill source (Reply.Fell entry score) = ⊥
IsUnjudged hill source (Reply.Refused fault) = Reply.Refused fault ≡ kept_reply hill source
IsUnjudged hill source Reply.Memory = Unit {0}
IsUnjudged hill source Reply.Worn = (w : WarriorParts) × (assembly hill.settings source ≡ Ok w)
IsUnjudged hill source Reply.Disk = ⊥
IsUnjudged hill source Reply.Reopen = ⊥

-- the same of some hill that was just opened
abbrev pub SaysTrial : View → List ℕ → AnswerParts → Type 0
SaysTrial view source answer = (hill : Kept) × (reply : Reply) × (told : Told)
    × (IsForetold view hill source reply told ⊎ (IsUnjudged hill source reply × (told.more ≡ []))) × AnswersReply view told.placed reply told.more answer

-- what is answered to a source, with this definition or without, by what its reader has left before and after: the answer
-- to the text that is assembled for the source that was taken; or a fault, and then some of it may have been taken
abbrev pub AnswersTrial : Option (List ℕ) → (List ℕ → AnswerParts → Type 0) → Option (List ℕ) → Option (List ℕ) → Outcome → Type 0
AnswersTrial define Says i j (Ok answer) =
    (source : List ℕ) × Takes i j source × ((text : List ℕ) × (text_by define source ≡ Some text) × Says text answer)
AnswersTrial define Says i j (Err trouble) = IsOfHill trouble × TakesSome i j

-- how `try` ends, of a source that is read from the input or from a file
abbrev pub EndsTrial : Bool → Option (List ℕ) → View → Status → Streams → Streams → Type 0
EndsTrial of_input define view status before after =
    Ends (λ outcome. From of_input (λ i j. AnswersTrial define (SaysTrial view) i j outcome) before.input after.input) status before after
