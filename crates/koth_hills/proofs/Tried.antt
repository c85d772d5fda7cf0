-- What a source that is tried is due, and how that is answered.
use Rattle.std.proofs.Common.{◌≡◌, ◌⊎◌, ◌∙◌, ℕ, List, [], Option, None, Some, Result, Ok, Err, IfOk, false, true≢false, arith, inl, inr, refl, subst, sym}
use Rattle.{koth_hill.specs.{Kept.Kept, declared.verdict.Verdict.Verdict}, sector_disk.specs.Facts.DeviceFacts}
use Rattle.hill_store.specs.{declared.reply.Reply.Reply, Earned.kept_reply, Read.{IsJudged, IsTried}, Seen.{Seen, Submits}}
use Rattle.{koth_words.specs.declared.requests.View.View, koth_commands.specs.Answer.AnswerParts}
use Rattle.koth_hills.specs.{Hills.AnswersReply, Json.{IsDue, IsLineOf}, Trials.{IsTrialText, IsUnjudged, SaysTrial, Tried}}

-- what holds on success, seen another way
pub if_ok : {T E : Type 0} (result : Result T E) (P Q : T → Type 0) → ((x : T) → P x → Q x) → IfOk result P → IfOk result Q
if_ok (Ok x) P Q holds p = holds x p
if_ok (Err e) P Q holds p = tt

-- without memory for the matches nothing is told of them
told_none : (view : View) (hill : Kept) (judged : Verdict) → IsTrialText view hill judged []
told_none View.Plain hill judged = refl
told_none View.Table hill judged = inl refl
told_none View.Json hill judged = inl refl

module _ {D : Type 0} (facts : DeviceFacts D) (store : Seen D) (source : List ℕ) where
  -- the answer that foretells
  pub foretold : (view : View) (judged : Verdict) (reply : Reply) (placed more : List ℕ) (answer : AnswerParts) → IsDue store.hill source judged
      → reply ≡ kept_reply store.hill source → IsLineOf view store.hill source reply placed → IsTrialText view store.hill judged more
      → AnswersReply view placed reply more answer ⊎ AnswersReply view placed reply [] answer → Tried facts store source view answer
  foretold view judged reply placed more answer due earned line told (inl whole) =
      (reply, record { placed = placed; more = more }, inl (record { judged = judged; due = due; earned = earned; placed = line; more = told }), whole)
  foretold view judged reply placed more answer due earned line told (inr first) =
      (reply, record { placed = placed; more = [] }, inl (record { judged = judged; due = due; earned = earned; placed = line; more = told_none view store.hill judged }), first)

  -- or the reply of a submission that changes nothing
  pub answered : (view : View) (reply : Reply) (placed : List ℕ) (answer : AnswerParts) → Submits facts store source reply store
      → AnswersReply view placed reply [] answer ⊎ AnswersReply view placed reply [] answer → Tried facts store source view answer
  answered view reply placed answer submits (inl line) = (reply, record { placed = placed; more = [] }, inr (submits, refl), line)
  answered view reply placed answer submits (inr line) = (reply, record { placed = placed; more = [] }, inr (submits, refl), line)

  -- a reply that changes nothing of a store that was open has no verdict
  is_unjudged : (reply : Reply) → Submits facts store source reply store → store.reopen ≡ false → IsUnjudged store.hill source reply
  is_unjudged (Reply.Placed entry rank score) submits is_open = let more = submits.1.generation in absurd (omega arith)
  is_unjudged (Reply.Fell entry score) submits is_open = let more = submits.1.generation in absurd (omega arith)
  is_unjudged (Reply.Refused fault) submits is_open = submits.0
  is_unjudged Reply.Memory submits is_open = tt
  is_unjudged Reply.Worn submits is_open = submits.1
  is_unjudged Reply.Disk submits is_open = true≢false (sym submits.1.broken ∙ is_open)
  is_unjudged Reply.Reopen submits is_open = true≢false (sym submits.0 ∙ is_open)

  -- the answer of a store's hill is that of some hill
  pub says_trial : (view : View) (answer : AnswerParts) → store.reopen ≡ false → Tried facts store source view answer → SaysTrial view source answer
  says_trial view answer is_open (reply, told, inl foretold, says) = (store.hill, reply, told, inl foretold, says)
  says_trial view answer is_open (reply, told, inr other, says) = (store.hill, reply, told, inr (is_unjudged reply other.0 is_open, other.1), says)

  module _ (r : Option (Result Verdict Reply)) (tried : IsTried facts None store source r) where
    pub judged_of : (judged : Verdict) → r ≡ Some (Ok judged) → IsJudged store source judged
    judged_of judged is = subst (λ r. IsTried facts None store source r) is tried

    pub due_of : (judged : Verdict) → r ≡ Some (Ok judged) → IsDue store.hill source judged
    due_of judged is = let due = judged_of judged is in (due.warrior, due.assembled, due.verdict)

    pub replied_of : (reply : Reply) → r ≡ Some (Err reply) → Submits facts store source reply store
    replied_of reply is = subst (λ r. IsTried facts None store source r) is tried
