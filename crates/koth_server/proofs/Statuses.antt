-- No answer and no fault ends as one of the arguments does.
use Rattle.std.proofs.Common.{◌≡◌, ◌≢◌, ◌∙◌, ℕ, Bool, true, false, List, Option, Result, Ok, Err, None, Some, IfOk, sym, ap, inl, inr}
use Rattle.war_types.specs.{declared.settings.{RawSettings.RawSettings, SettingsFault.SettingsFault}, Settings.settings_of}
use Rattle.{koth_hill.specs.{Kept.Kept, declared.untrue.Untrue.Untrue}, hill_store.specs.declared.reply.Reply.Reply}
use Rattle.koth_commands.specs.{Answer.{AnswerParts, Delivers, answer_parts}, Kinds.IsExplained, Streams.From, Trouble.fault_status, declared.{status.Status.Status, trouble.{Fault.Fault}}}
use Rattle.koth_keeping.specs.{Answers.{Answers, AnswersGiven, Outcome, SaysLine}, Audit.{SaysAudit, audit_answer}, Copies.{MayReseed, SaysCopied}, Migration.migrated_line, Created.{MayCreate, SaysCreated}, Seed.seed_hint}
use Rattle.{koth_words.specs.declared.requests.View.View, koth_hills.specs.{Hills.{AnswersSource, SaysReply, SaysSeen, SaysShown, Sight}, Trials.{AnswersTrial, SaysTrial}, Page.SaysPage, ReplyStatus.reply_status}, koth_remote.specs.Remote.{EndsAsReply, EndsAsTable, MayShowTo, MaySubmitTo}}

pub never-words : (fault : Fault) → fault_status fault ≡ Status.WordFault → ⊥
never-words (Fault.Settings fault) is = absurd (cc)
never-words Fault.TooSmall is = absurd (cc)
never-words Fault.Occupied is = absurd (cc)
never-words Fault.NotAHill is = absurd (cc)
never-words Fault.OldHill is = absurd (cc)
never-words Fault.Damaged is = absurd (cc)
never-words Fault.NoEntry is = absurd (cc)
never-words Fault.BadDefine is = absurd (cc)
never-words Fault.NoEqu is = absurd (cc)
never-words Fault.NoKind is = absurd (cc)
never-words Fault.Stream is = absurd (cc)
never-words Fault.Memory is = absurd (cc)

-- this status is none of the arguments
abbrev pub IsNone : AnswerParts → Type 0
IsNone answer = answer.status ≢ Status.WordFault

-- so it is with what was delivered, if it is with the answer
pub delivered : (outcome : Outcome) (status : Status) (o p e f : Option (List ℕ)) → IfOk outcome IsNone → Delivers outcome status o p e f
    → status ≢ Status.WordFault
delivered (Ok answer) status o p e f never (inl whole) is = never (sym whole.0 ∙ is)
delivered (Ok answer) status o p e f never (inr part) is = absurd (cc)
delivered (Err trouble) status o p e f never told is = never-words trouble.fault (sym told.1.ends ∙ is)

pub answers : (Says : AnswerParts → Type 0) → ((answer : AnswerParts) → Says answer → IsNone answer) → (outcome : Outcome) → Answers Says outcome
    → IfOk outcome IsNone
answers Says never (Ok answer) may = never answer may
answers Says never (Err trouble) may = tt

pub done : (text note : List ℕ) (answer : AnswerParts) → answer ≡ answer_parts Status.Done text note → IsNone answer
done text note answer same is = absurd (cc)

found_none : (view : View) (found : Option Untrue) → IsNone (audit_answer view found)
found_none view None is = absurd (cc)
found_none view (Some untrue) is = absurd (cc)

found_so : (view : View) (found : Option Untrue) (answer : AnswerParts) → answer ≡ audit_answer view found → IsNone answer
found_so view found answer same is = found_none view found (ap (λ (a : AnswerParts). a.status) (sym same) ∙ is)

reply_none : (reply : Reply) → reply_status reply ≢ Status.WordFault
reply_none (Reply.Placed entry rank score) is = absurd (cc)
reply_none (Reply.Fell entry score) is = absurd (cc)
reply_none (Reply.Refused fault) is = absurd (cc)
reply_none Reply.Memory is = absurd (cc)
reply_none Reply.Worn is = absurd (cc)
reply_none Reply.Disk is = absurd (cc)
reply_none Reply.Reopen is = absurd (cc)

-- ---- of each command

made : (hint : List ℕ) (r : Result RawSettings SettingsFault) (outcome : Outcome) → AnswersGiven (λ s. Answers (SaysCreated hint)) r outcome → IfOk outcome IsNone
made hint (Ok s) outcome may = answers (SaysCreated hint) (λ answer says. done _ hint answer says) outcome may
made hint (Err fault) (Ok answer) may = absurd may
made hint (Err fault) (Err trouble) may = tt

pub created : (drawn : Bool) (given : RawSettings) (outcome : Outcome) → MayCreate drawn given outcome → IfOk outcome IsNone
created false given outcome may = made (seed_hint given.seed) (settings_of given) outcome may
created true given outcome (inl (seed, is_seed, may)) = made _ (settings_of (record given { seed = seed })) outcome may
created true given (Ok answer) (inr failed) = absurd failed
created true given (Err trouble) (inr failed) = tt

pub audited : (view : View) (outcome : Outcome) → Answers (SaysAudit view) outcome → IfOk outcome IsNone
audited view = answers (SaysAudit view) (λ answer says. found_so view says.1.0 answer says.1.2)

pub copied : (asked : Bool) (outcome : Outcome) → Answers (SaysCopied asked) outcome → IfOk outcome IsNone
copied asked = answers (SaysCopied asked) (λ answer says. elim says.1 [
  | inl line ↦ done _ _ answer line.1
  | inr found ↦ found_so View.Plain (Some found.1.0) answer found.1.2
])

from_source : (of_input : Bool) (Says : List ℕ → AnswerParts → Type 0) (i j : Option (List ℕ)) (outcome : Outcome)
    → ((source : List ℕ) (answer : AnswerParts) → Says source answer → IsNone answer) → From of_input (λ u v. AnswersSource Says u v outcome) i j
    → IfOk outcome IsNone
from_source true Says i j (Ok answer) never may = never may.0 answer may.2
from_source false Says i j (Ok answer) never may = never may.0.0 answer may.0.2
from_source of_input Says i j (Err trouble) never may = tt

pub replied : (of_input : Bool) (view : View) (i j : Option (List ℕ)) (outcome : Outcome) → From of_input (λ u v. AnswersSource (SaysReply view) u v outcome) i j
    → IfOk outcome IsNone
replied of_input view i j outcome =
    from_source of_input (SaysReply view) i j outcome (λ source answer says. λ is. reply_none says.2 (sym says.4.2.ends ∙ is))

trial_none : (view : View) (source : List ℕ) (answer : AnswerParts) → SaysTrial view source answer → IsNone answer
trial_none view source answer says is = reply_none says.1 (sym says.4.ends ∙ is)

pub tried : (of_input : Bool) (define : Option (List ℕ)) (view : View) (i j : Option (List ℕ)) (outcome : Outcome)
    → From of_input (λ u v. AnswersTrial define (SaysTrial view) u v outcome) i j → IfOk outcome IsNone
tried true define view i j (Ok answer) (source, taken, (text, defined, says)) = trial_none view text answer says
tried false define view i j (Ok answer) ((source, taken, (text, defined, says)), kept) = trial_none view text answer says
tried of_input define view i j (Err trouble) may = tt

seen : (entry : Option ℕ) (view : View) (sight : Sight) (hill : Kept) (answer : AnswerParts) → SaysSeen entry view sight hill answer → IsNone answer
seen None view sight hill answer says = done _ _ answer says
seen (Some entry) view sight hill answer says = done _ _ answer says.2

pub shown : (view : View) (sight : Sight) (outcome : Outcome) → Answers (SaysShown view sight) outcome → IfOk outcome IsNone
shown view sight = answers (SaysShown view sight) (λ answer says. seen sight.entry view sight says.0 answer says.1)

done_status : (status : Status) → status ≡ Status.Done → status ≢ Status.WordFault
done_status status done is = absurd (cc)

pub explained : (name : Option (List ℕ)) (outcome : Outcome) → IsExplained name outcome → IfOk outcome IsNone
explained name (Ok answer) (ends, explains, silent) = done_status answer.status ends
explained name (Err trouble) may = tt

pub paged : (outcome : Outcome) → Answers SaysPage outcome → IfOk outcome IsNone
paged = answers SaysPage (λ answer says. done _ _ answer says.1)

-- of a hill elsewhere
as_reply : (status : Status) → EndsAsReply status → status ≢ Status.WordFault
as_reply status (inl (reply, is)) word = reply_none reply (sym is ∙ word)
as_reply status (inr fault) word = absurd (cc)

as_table : (status : Status) → EndsAsTable status → status ≢ Status.WordFault
as_table status (inl done) word = absurd (cc)
as_table status (inr fault) word = absurd (cc)

pub submitted_to : (outcome : Outcome) → MaySubmitTo outcome → IfOk outcome IsNone
submitted_to (Ok answer) ends = as_reply answer.status ends
submitted_to (Err trouble) ends = tt

pub shown_to : (outcome : Outcome) → MayShowTo outcome → IfOk outcome IsNone
shown_to (Ok answer) ends = as_table answer.status ends
shown_to (Err trouble) ends = tt

pub migrated : (outcome : Outcome) → Answers (SaysLine migrated_line) outcome → IfOk outcome IsNone
migrated = answers (SaysLine migrated_line) (λ answer says. done _ _ answer says)

pub reseeded : (outcome : Outcome) → MayReseed outcome → IfOk outcome IsNone
reseeded (Ok answer) may = done _ _ answer may
reseeded (Err trouble) may = tt
