-- How a submission moves the counter of a hill: for the sessions.
use Rattle.{std.proofs.Common.{◌≡◌, ℕ, ◌+◌, Bool, true, false, List, Result, Ok, Err, sym, ap, ◌∙◌, true≢false}, war_types.specs.{Warrior.WarriorParts, declared.fault.AsmFault.AsmFault}}
use Rattle.{redcode_asm.specs.Assembly.assembly, koth_hill.specs.{Hill.Hill, Kept.{Kept, hill_in, known, step_kept}}, koth_hill.proofs.{Truths.hill-step, Verdicts.step-counter}}
use Rattle.hill_store.specs.{declared.reply.Reply.Reply, Earned.{kept_found, kept_next, kept_reply, kept_reply_found}}

step_counts : (k : Kept) (w : WarriorParts) → (step_kept k w).counter ≡ k.counter + 1
step_counts k w = ap (λ (h : Hill). h.counter) (hill-step k w) ∙ step-counter (known k w) (hill_in k) w

-- the warrior of this reply was counted
abbrev pub is_counted : Reply → Bool
is_counted (Reply.Placed entry rank score) = true
is_counted (Reply.Fell entry score) = true
is_counted (Reply.Refused fault) = false
is_counted Reply.Memory = false
is_counted Reply.Worn = false
is_counted Reply.Disk = false
is_counted Reply.Reopen = false

found_counts : (k : Kept) (r : Result WarriorParts AsmFault) (reply : Reply) → reply ≡ kept_reply_found k r → is_counted reply ≡ true → (kept_found k r).counter ≡ k.counter + 1
found_counts k (Ok w) reply is counted = step_counts k w
found_counts k (Err fault) reply is counted = absurd (true≢false (sym counted ∙ ap is_counted is))

-- a submission that was placed or fell is counted once
pub source_counts : (k : Kept) (source : List ℕ) (reply : Reply) → reply ≡ kept_reply k source → is_counted reply ≡ true → (kept_next k source).counter ≡ k.counter + 1
source_counts k source reply is counted = found_counts k (assembly k.settings source) reply is counted
