-- The line of a warrior that is placed, as JSON, is the one that its verdict gives.
use Rattle.std.proofs.Common.{◌≡◌, ◌∙◌, ℕ, List, Bool, true, false, if◌then◌else◌, ap, arith, refl, subst, sym}
use Rattle.{war_types.specs.Warrior.WarriorParts, koth_hill.specs.{Kept.{Kept, verdict_kept}, declared.verdict.Verdict.Verdict}, koth_json.specs.Reply.judged_line}
use Rattle.hill_store.specs.{declared.reply.Reply.Reply, Earned.reply_judged, Seen.{Challenges, Seen, Submits}}
use Rattle.{sector_disk.specs.Facts.DeviceFacts, koth_words.specs.declared.requests.View.View, koth_hills.specs.Json.{HasLine, IsDue, IsLineOf}}

-- who is placed stays
stays_if : (b : Bool) (entry rank score e r s f t : ℕ) → Reply.Placed entry rank score ≡ (if b then Reply.Placed e r s else Reply.Fell f t) → b ≡ true
stays_if true entry rank score e r s f t is = refl
stays_if false entry rank score e r s f t is = cc

-- a line that is right for a warrior that stays
pub has_line : (view : View) (judged : Verdict) (due line : List ℕ) (reply : Reply)
    → ((entry rank score : ℕ) → reply ≡ Reply.Placed entry rank score → Reply.Placed entry rank score ≡ reply_judged judged)
    → (view ≡ View.Json → judged.stays ≡ true → line ≡ due) → HasLine view due reply line
has_line View.Plain judged due line reply placed right = tt
has_line View.Table judged due line reply placed right = tt
has_line View.Json judged due line (Reply.Placed entry rank score) placed right =
    right refl (stays_if judged.stays entry rank score judged.entry judged.rank judged.score judged.entry judged.score (placed entry rank score refl))
has_line View.Json judged due line (Reply.Fell entry score) placed right = tt
has_line View.Json judged due line (Reply.Refused fault) placed right = tt
has_line View.Json judged due line Reply.Memory placed right = tt
has_line View.Json judged due line Reply.Worn placed right = tt
has_line View.Json judged due line Reply.Disk placed right = tt
has_line View.Json judged due line Reply.Reopen placed right = tt

-- a source is due one verdict
same_due : (k : Kept) (source : List ℕ) (one other : Verdict) → IsDue k source one → IsDue k source other → one ≡ other
same_due k source one other (w, is, due) (v, is', due') =
    let same : w ≡ v = cc in
    due ∙ cc

pub is_line : (view : View) (k : Kept) (source : List ℕ) (judged : Verdict) (reply : Reply) (line : List ℕ) → IsDue k source judged
    → HasLine view (judged_line k judged) reply line → IsLineOf view k source reply line
is_line view k source judged reply line due has = λ other. λ due'.
    subst (λ v. HasLine view (judged_line k v) reply line) (same_due k source judged other due due') has

-- who is placed by a store is placed by its verdict
pub challenged : {D : Type 0} (facts : DeviceFacts D) (old new : Seen D) (w : WarriorParts) (judged : Verdict) (reply : Reply) → Challenges facts old w reply new
    → judged ≡ verdict_kept old.hill w → (entry rank score : ℕ) → reply ≡ Reply.Placed entry rank score → Reply.Placed entry rank score ≡ reply_judged judged
challenged facts old new w judged reply challenges is entry rank score placed =
    let by : Challenges facts old w (Reply.Placed entry rank score) new = subst (λ r. Challenges facts old w r new) placed challenges in
    by.0 ∙ ap reply_judged (sym is)

-- what is refused and changes nothing is no warrior that is placed
pub unplaced : {D : Type 0} (facts : DeviceFacts D) (store : Seen D) (source : List ℕ) (view : View) (reply : Reply) (line : List ℕ)
    → Submits facts store source reply store → IsLineOf view store.hill source reply line
unplaced facts store source View.Plain reply line submits = λ judged. λ due. tt
unplaced facts store source View.Table reply line submits = λ judged. λ due. tt
unplaced facts store source View.Json (Reply.Placed entry rank score) line submits = λ judged. λ due.
    let more = submits.1.generation in absurd (omega arith)
unplaced facts store source View.Json (Reply.Fell entry score) line submits = λ judged. λ due. tt
unplaced facts store source View.Json (Reply.Refused fault) line submits = λ judged. λ due. tt
unplaced facts store source View.Json Reply.Memory line submits = λ judged. λ due. tt
unplaced facts store source View.Json Reply.Worn line submits = λ judged. λ due. tt
unplaced facts store source View.Json Reply.Disk line submits = λ judged. λ due. tt
unplaced facts store source View.Json Reply.Reopen line submits = λ judged. λ due. tt

-- without memory no warrior is placed
pub lacks_line : (view : View) (due line : List ℕ) → HasLine view due Reply.Memory line
lacks_line View.Plain due line = tt
lacks_line View.Table due line = tt
lacks_line View.Json due line = tt
