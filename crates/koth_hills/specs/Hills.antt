-- What the commands on a hill in a file answer, and how they end.
use Rattle.std.specs.{Prelude.{◌≡◌, ◌≢◌, ◌⊎◌, ℕ, nat_lt, Bool, if◌then◌else◌, List, [], Option, None, Some, ◌++◌, Ok, Err, IfSome, codes, slice_get}, Io.KnownBytes.Keeps}
use Rattle.{war_types.specs.{Warrior.WarriorParts, declared.fault.AsmFault.AsmFault}, redcode_asm.specs.{Assembly.assembly, LoadText.load_text}}
use Rattle.{koth_hill.specs.{Hill.{Member, member_of}, Kept.{Kept, table_kept}, declared.verdict.Verdict.Verdict}, sector_disk.specs.Facts.DeviceFacts}
use Rattle.{hill_store.specs.{Earned.{kept_next, kept_reply}, Seen.{Seen, Submits}, declared.reply.Reply.Reply}, koth_session.specs.Reply.reply_line}
use Rattle.koth_protocol.specs.{Matches.matches_text, Table.show_text}
use Rattle.{koth_json.specs.Hill.hill_text, koth_words.specs.{Settings.given_as, declared.requests.Shown.Shown, declared.requests.View.View}}
use Rattle.koth_views.specs.{Standing.hill_view, Matrix.matches_view, Roster.roster, declared.entrants.Entered.Entered}
use Rattle.koth_commands.specs.{Answer.{AnswerParts, answer_parts}, Told.TellsWord, Streams.{From, Streams, Takes, TakesSome}, declared.status.Status.Status}
use Rattle.{koth_files.specs.Trouble.IsOfHill, koth_keeping.specs.Answers.{Ends, Outcome}}
use Rattle.koth_hills.specs.{Json.{IsDue, IsJsonText, IsLineOf}, Placing.placing_view, ReplyStatus.reply_status, Settings.settings_text, Width.{longest_line, terminal_width}}

-- What stands after the line of a reply to a source that turned the old hill into the new one: for people what became
-- of its warrior, as lines of JSON its matches, unless there was no memory for that. What is told of its matches is by
-- the verdict that the source is due of the old hill.
abbrev pub IsPlacing : View → Kept → Kept → List ℕ → Reply → List ℕ → Type 0
IsPlacing view old new source reply more =
    (more ≡ []) ⊎ ((judged : Option Verdict) × IfSome judged (IsDue old source) × (more ≡ placing_view view (roster old) new reply judged))

-- the text of an answer to a source: the line of its reply and this text after it. As JSON the line of a warrior that is
-- placed is this one, and that of a refusal has the reason too
abbrev pub IsReplyText : View → List ℕ → Reply → List ℕ → List ℕ → Type 0
IsReplyText View.Plain placed reply more text = text ≡ reply_line reply ++ more
IsReplyText View.Table placed reply more text = text ≡ reply_line reply ++ more
IsReplyText View.Json placed reply more text = IsJsonText placed reply more text

-- the note of an answer to a source: some text that explains a refusal, and else nothing; beside lines of JSON nothing
abbrev pub IsNote : View → Reply → List ℕ → Type 0
IsNote View.Plain reply note = ((fault : AsmFault) → reply ≢ Reply.Refused fault) → note ≡ []
IsNote View.Table reply note = ((fault : AsmFault) → reply ≢ Reply.Refused fault) → note ≡ []
IsNote View.Json reply note = note ≡ []

-- the answer to a source: its reply in this view, of a warrior that is placed this line as JSON, and this text after it
pub record AnswersReply (view : View) (placed : List ℕ) (reply : Reply) (more : List ℕ) (answer : AnswerParts) : Type 0 where
  pub ends : answer.status ≡ reply_status reply
  pub text : IsReplyText view placed reply more answer.text
  pub note : IsNote view reply answer.note

-- the line of a warrior that is placed, as JSON, and what stands after the line of a reply
pub record Told : Type 0 where
  pub placed : List ℕ
  pub more : List ℕ

-- both of a submission that turned the old hill into the new one
pub record IsTold (view : View) (old new : Kept) (source : List ℕ) (reply : Reply) (told : Told) : Type 0 where
  pub placed : IsLineOf view old source reply told.placed
  pub more : IsPlacing view old new source reply told.more

-- the answer to that submission
abbrev pub SaysSubmitted : View → Kept → Kept → List ℕ → Reply → AnswerParts → Type 0
SaysSubmitted view old new source reply answer = (told : Told) × IsTold view old new source reply told × AnswersReply view told.placed reply told.more answer

-- the answer to the submission of a source to a store
abbrev pub Submitted : {D : Type 0} → DeviceFacts D → Seen D → List ℕ → Seen D → View → AnswerParts → Type 0
Submitted facts old source new view answer = (reply : Reply) × Submits facts old source reply new × SaysSubmitted view old.hill new.hill source reply answer

-- the reply to a submission of the source, by the hill before and after it: a verdict or a refusal is what the source
-- earns of the hill before it. A store that was just opened never answers `REOPEN`
abbrev pub IsReplyTo : Kept → List ℕ → Reply → Kept → Type 0
IsReplyTo old source (Reply.Placed entry rank score) new = (Reply.Placed entry rank score ≡ kept_reply old source) × (new ≡ kept_next old source)
IsReplyTo old source (Reply.Fell entry score) new = (Reply.Fell entry score ≡ kept_reply old source) × (new ≡ kept_next old source)
IsReplyTo old source (Reply.Refused fault) new = (Reply.Refused fault ≡ kept_reply old source) × (new ≡ old)
IsReplyTo old source Reply.Memory new = new ≡ old
IsReplyTo old source Reply.Worn new = (w : WarriorParts) × (assembly old.settings source ≡ Ok w) × (new ≡ old)
IsReplyTo old source Reply.Disk new = (w : WarriorParts) × (assembly old.settings source ≡ Ok w) × (new ≡ old)
IsReplyTo old source Reply.Reopen new = ⊥

-- the same of some hill that was just opened
abbrev pub SaysReply : View → List ℕ → AnswerParts → Type 0
SaysReply view source answer =
    (old : Kept) × (new : Kept) × (reply : Reply) × IsReplyTo old source reply new × SaysSubmitted view old new source reply answer

-- what is answered to a source, by what its reader has left before and after: the answer to the source that was taken;
-- or a fault, and then some of it may have been taken
abbrev pub AnswersSource : (List ℕ → AnswerParts → Type 0) → Option (List ℕ) → Option (List ℕ) → Outcome → Type 0
AnswersSource Says i j (Ok answer) = (source : List ℕ) × Takes i j source × Says source answer
AnswersSource Says i j (Err trouble) = IsOfHill trouble × TakesSome i j

-- how a command on a source ends, that is read from the input or from a file
abbrev pub EndsSource : Bool → (List ℕ → AnswerParts → Type 0) → Status → Streams → Streams → Type 0
EndsSource of_input Says status before after =
    Ends (λ outcome. From of_input (λ i j. AnswersSource Says i j outcome) before.input after.input) status before after

-- what is to be seen of a hill: its table, with the matrix of its matches or without, or its settings, with the seed or
-- without; or the load text of the warrior with this entry
pub record Sight : Type 0 where
  pub matches : Bool
  pub settings : Bool
  pub with_seed : Bool
  pub entry : Option ℕ

abbrev pub sight_of : Shown → Sight
sight_of shown = record { matches = shown.matches; settings = shown.settings; with_seed = shown.with_seed; entry = shown.entry }

-- the table of this hill, by the results that it keeps, and after it their matrix, if that is asked for: for programs
abbrev pub shown_lines : Bool → Kept → List ℕ
shown_lines matches hill = if matches then show_text (table_kept hill) ++ matches_text hill else show_text (table_kept hill)

-- the matrix for people: in columns, or as programs get it if a terminal has no room for these
abbrev pub shown_matrix : Kept → List ℕ
shown_matrix hill =
    if nat_lt terminal_width (longest_line (matches_view hill)) then matches_text hill else matches_view hill

-- the table for people, and after it the matrix, if that is asked for
abbrev pub shown_table : Bool → Kept → List ℕ
shown_table matches hill = if matches then hill_view hill ++ (codes "\n" ++ shown_matrix hill) else hill_view hill

abbrev pub shown_text : View → Bool → Kept → List ℕ
shown_text View.Plain matches hill = shown_lines matches hill
shown_text View.Table matches hill = shown_table matches hill
shown_text View.Json matches hill = hill_text (given_as hill.settings) matches hill

-- the table, or the settings in its place
abbrev pub sight_text : View → Sight → Kept → List ℕ
sight_text view sight hill = if sight.settings then settings_text sight.with_seed hill.settings else shown_text view sight.matches hill

abbrev pub SaysSight : View → Sight → Kept → AnswerParts → Type 0
SaysSight view sight hill answer = answer ≡ answer_parts Status.Done (sight_text view sight hill) []

-- this warrior is on the hill, under this entry
pub record IsWarriorAt (members : List Member) (entry : ℕ) (warrior : WarriorParts) : Type 0 where
  pub place : ℕ
  pub age : ℕ
  pub is : slice_get members place ≡ Some (member_of entry age warrior)

-- a warrior on the hill has this entry
abbrev pub HasEntry : List Member → ℕ → Type 0
HasEntry members entry = (warrior : WarriorParts) × IsWarriorAt members entry warrior

-- the answer with the load text of the warrior with this entry
abbrev pub SaysWarrior : ℕ → Kept → AnswerParts → Type 0
SaysWarrior entry hill answer =
    (warrior : WarriorParts) × IsWarriorAt hill.members entry warrior × (answer ≡ answer_parts Status.Done (load_text hill.settings.core warrior) [])

abbrev pub SaysSeen : Option ℕ → View → Sight → Kept → AnswerParts → Type 0
SaysSeen None view sight hill answer = SaysSight view sight hill answer
SaysSeen (Some entry) view sight hill answer = SaysWarrior entry hill answer

-- the answer with that of some hill
abbrev pub SaysShown : View → Sight → AnswerParts → Type 0
SaysShown view sight answer = (hill : Kept) × SaysSeen sight.entry view sight hill answer

-- what is written on standard error before the hill in a file is opened: nothing, or that one of its headers can't be
-- read
abbrev pub TellsNote : Option (List ℕ) → Option (List ℕ) → Type 0
TellsNote old new = Keeps old new ⊎ TellsWord (codes "NOTE") old new

-- such a note, and then how a command ends
abbrev pub AfterNote : (Streams → Streams → Type 0) → Streams → Streams → Type 0
AfterNote ends before after = (noted : Option (List ℕ)) × TellsNote before.errors noted × ends (record before { errors = noted }) after
