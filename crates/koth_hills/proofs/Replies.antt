-- The answer to a source.
use Rattle.std.proofs.Common.{◌≡◌, ◌⊎◌, ◌∙◌, ℕ, List, [], Option, None, Some, Result, Ok, Err, OnErr, IfSome, false, true≢false, inl, inr, refl, ap, sym, subst}
use Rattle.{war_types.specs.declared.fault.AsmFault.AsmFault, koth_hill.specs.{Kept.Kept, declared.verdict.Verdict.Verdict}, sector_disk.specs.Facts.DeviceFacts, hill_store.specs.{Seen.{Seen, Submits}, declared.reply.Reply.Reply}}
use Rattle.{koth_words.specs.declared.requests.View.View, koth_views.specs.{Roster.roster, declared.entrants.Entered.Entered}, koth_commands.specs.{Answer.AnswerParts, declared.status.Status.Status}}
use Rattle.koth_hills.specs.{Hills.{AnswersReply, IsPlacing, IsReplyTo, SaysReply, Submitted}, Json.{IsDue, IsLineOf, IsRefused, settled_lines}, Placing.outcome_view, ReplyStatus.reply_status}

-- a source that is refused, and one for which the device is worn out, end so
pub refused-status : (reply : Reply) → ((fault : AsmFault) × (reply ≡ Reply.Refused fault)) ⊎ (reply ≡ Reply.Worn) → Status.Refused ≡ reply_status reply
refused-status reply is = elim is [
  | inl refused ↦ sym (ap reply_status refused.1)
  | inr worn ↦ sym (ap reply_status worn)
]

-- what became of the warrior is written if it is known who stood on the hill
pub is_placing : {V : Type 0} (items : V → List Entered) (view : View) (old new : Kept) (source : List ℕ) (reply : Reply) (judged : Option Verdict) (stood : Option V) (more : List ℕ)
    → IfSome stood (λ v. items v ≡ roster old) → IfSome judged (IsDue old source) → (view ≡ View.Plain → more ≡ []) → (view ≡ View.Table → stood ≡ None → more ≡ [])
    → (view ≡ View.Table → IfSome stood (λ v. (more ≡ []) ⊎ (more ≡ outcome_view (items v) new reply judged)))
    → (view ≡ View.Json → (more ≡ []) ⊎ (more ≡ settled_lines new reply judged)) → IsPlacing view old new source reply more
is_placing items View.Plain old new source reply judged stood more known due plain none some json = inl (plain refl)
is_placing items View.Table old new source reply judged None more known due plain none some json = inl (none refl refl)
is_placing items View.Table old new source reply judged (Some v) more known due plain none some json = elim (some refl) [
  | inl is ↦ inl is
  | inr is ↦ inr (judged, due, subst (λ r. more ≡ outcome_view r new reply judged) known is)
]
is_placing items View.Json old new source reply judged stood more known due plain none some json = elim (json refl) [
  | inl is ↦ inl is
  | inr is ↦ inr (judged, due, is)
]

-- what holds if there was no memory, seen another way
pub on_err : {T E : Type 0} (result : Result T E) (P Q : Type 0) → (P → Q) → OnErr result P → OnErr result Q
on_err (Ok x) P Q holds p = tt
on_err (Err e) P Q holds p = holds p

module _ {D : Type 0} (facts : DeviceFacts D) (old new : Seen D) (source : List ℕ) (view : View) where
  -- the answer to a submission, from that to its reply
  pub submitted : (reply : Reply) (placed more : List ℕ) (answer : AnswerParts) → Submits facts old source reply new → IsLineOf view old.hill source reply placed
      → IsPlacing view old.hill new.hill source reply more → AnswersReply view placed reply more answer ⊎ AnswersReply view placed reply [] answer
      → Submitted facts old source new view answer
  submitted reply placed more answer submits line placing (inl whole) =
      (reply, submits, (record { placed = placed; more = more }, record { placed = line; more = placing }, whole))
  submitted reply placed more answer submits line placing (inr first) =
      (reply, submits, (record { placed = placed; more = [] }, record { placed = line; more = inl refl }, first))

  -- the reply of a store that was open, by its hills
  is_reply : (reply : Reply) → Submits facts old source reply new → old.reopen ≡ false → IsReplyTo old.hill source reply new.hill
  is_reply (Reply.Placed entry rank score) submits is_open = (submits.0, submits.1.hill)
  is_reply (Reply.Fell entry score) submits is_open = (submits.0, submits.1.hill)
  is_reply (Reply.Refused fault) submits is_open = (submits.0, ap (λ (s : Seen D). s.hill) submits.2.same)
  is_reply Reply.Memory submits is_open = ap (λ (s : Seen D). s.hill) submits.same
  is_reply Reply.Worn submits is_open = (submits.1.0, submits.1.1, ap (λ (s : Seen D). s.hill) submits.2.same)
  is_reply Reply.Disk submits is_open = (submits.0.0, submits.0.1, submits.1.hill)
  is_reply Reply.Reopen submits is_open = true≢false (sym submits.0 ∙ is_open)

  -- a refusal changes nothing
  pub refused_left : (reply : Reply) → Submits facts old source reply new → IsRefused reply → new ≡ old
  refused_left reply submits (fault, is) =
      let left : Submits facts old source (Reply.Refused fault) new = subst (λ r. Submits facts old source r new) is submits in
      left.2.same

  -- its answer is that of some hill
  pub says_reply : (answer : AnswerParts) → old.reopen ≡ false → Submitted facts old source new view answer → SaysReply view source answer
  says_reply answer is_open (reply, submits, said) = (old.hill, new.hill, reply, is_reply reply submits is_open, said)
