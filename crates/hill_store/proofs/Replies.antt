-- The reply of a verdict.
use Rattle.{std.proofs.Common.{◌≡◌, Bool, true, false, if◌then◌else◌, sym, ap, subst}, war_types.specs.Warrior.WarriorParts}
use Rattle.{koth_hill.specs.{declared.verdict.Verdict.Verdict, Kept.{verdict_kept, step_kept}}, sector_disk.specs.Facts.DeviceFacts}
use Rattle.hill_store.specs.{declared.reply.Reply.Reply, Earned.reply_judged, Seen.{Seen, IsAnswered, Challenges}}

answer_by : {D : Type 0} (facts : DeviceFacts D) (old new : Seen D) (w : WarriorParts) (judged : Verdict) (b : Bool) → (if b then Reply.Placed judged.entry judged.rank judged.score else Reply.Fell judged.entry judged.score) ≡ reply_judged (verdict_kept old.hill w) → IsAnswered facts old (step_kept old.hill w) new → Challenges facts old w (if b then Reply.Placed judged.entry judged.rank judged.score else Reply.Fell judged.entry judged.score) new
answer_by facts old new w judged true is answered = (is, answered)
answer_by facts old new w judged false is answered = (is, answered)

-- the reply of a verdict
pub answers : {D : Type 0} (facts : DeviceFacts D) (old new : Seen D) (w : WarriorParts) (judged : Verdict) (reply : Reply) → reply ≡ reply_judged judged → judged ≡ verdict_kept old.hill w → IsAnswered facts old (step_kept old.hill w) new → Challenges facts old w reply new
answers facts old new w judged reply is judged_is answered =
    subst (λ r. Challenges facts old w r new) (sym is)
    (answer_by facts old new w judged judged.stays (ap reply_judged judged_is) answered)
