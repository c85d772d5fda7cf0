-- If the results that a hill keeps are true, what is due by them is due with every pair fought again: for `laws_of_kept` and for what a store holds.
use Rattle.{std.proofs.Common.{◌≡◌, ℕ, true, false, List, Result, Ok, Err, refl, sym, ap, subst, ◌∙◌, true≢false}, war_types.specs.{Warrior.WarriorParts, declared.fault.AsmFault.AsmFault}}
use Rattle.{redcode_asm.specs.Assembly.assembly, koth_hill.specs.{Hill.{Hill, IsHill}, Table.table, Kept.{Kept, IsKept, AreTrue, fought, hill_in, step_kept, table_kept}}}
use Rattle.{koth_hill.proofs.{RowsKept.IsKept-fought, Truths.{still-true, true-step, true-table, true-verdict}}, sector_disk.specs.Facts.DeviceFacts}
use Rattle.hill_store.specs.{Earned.{reply_judged, reply_found, reply_of, step_found, step_source, kept_found, kept_next, kept_reply, kept_reply_found}, declared.reply.Reply.Reply}
use Rattle.hill_store.specs.{Seen.{Seen, IsCut, IsLeft, Submits}, Holding.is_answer, Kept.{IsAnew, LawsOfKept}}

-- true results are those of the hill
pub fought_is : (k : Kept) → AreTrue k → k ≡ fought (hill_in k)
fought_is k holds = λ i. record { settings = k.settings; counter = k.counter; members = k.members; results = holds i }

next_found : (h : Hill) (r : Result WarriorParts AsmFault) → IsHill h → kept_found (fought h) r ≡ fought (step_found h r)
next_found h (Ok w) is =
    fought_is (step_kept (fought h) w) (still-true (fought h) w (IsKept-fought h is) refl)
    ∙ ap fought (true-step (fought h) w (IsKept-fought h is) refl)
next_found h (Err fault) is = refl

-- the hill after a source
pub fought_next : (h : Hill) (source : List ℕ) → IsHill h → kept_next (fought h) source ≡ fought (step_source h source)
fought_next h source is = next_found h (assembly h.settings source) is

reply_found_is : (h : Hill) (r : Result WarriorParts AsmFault) → IsHill h → kept_reply_found (fought h) r ≡ reply_found h r
reply_found_is h (Ok w) is = ap reply_judged (true-verdict (fought h) w (IsKept-fought h is) refl)
reply_found_is h (Err fault) is = refl

-- its reply
pub fought_reply : (h : Hill) (source : List ℕ) → IsHill h → kept_reply (fought h) source ≡ reply_of h source
fought_reply h source is = reply_found_is h (assembly h.settings source) is

-- its table
pub fought_rows : (h : Hill) → IsHill h → table_kept (fought h) ≡ table h
fought_rows h is = true-table (fought h) (IsKept-fought h is) refl

-- ---- submissions

-- what a submission that moved the hill or not gives
anew_answered : (old : Kept) (source : List ℕ) (reply : Reply) (new : Kept) → is_answer reply ≡ true → IsHill (hill_in old) → AreTrue old → reply ≡ kept_reply old source → new ≡ kept_next old source → IsAnew old source reply new
anew_answered old source reply new is_one hill holds due next =
    let now : new ≡ fought (step_source (hill_in old) source) = next ∙ ap (λ k. kept_next k source) (fought_is old holds) ∙ fought_next (hill_in old) source hill in record {
      due = λ is. due ∙ ap (λ k. kept_reply k source) (fought_is old holds) ∙ fought_reply (hill_in old) source hill;
      hill = λ is. ap hill_in now;
      same = λ is. absurd (true≢false (sym is_one ∙ is));
      still_true = subst AreTrue (sym now) refl;
    }

anew_left : (old : Kept) (source : List ℕ) (reply : Reply) (new : Kept) → is_answer reply ≡ false → AreTrue old → new ≡ old → IsAnew old source reply new
anew_left old source reply new is_none holds same = record {
  due = λ is. absurd (true≢false (sym is ∙ is_none));
  hill = λ is. absurd (true≢false (sym is ∙ is_none));
  same = λ is. same;
  still_true = subst AreTrue (sym same) holds;
}

pub anew : {D : Type 0} (facts : DeviceFacts D) (old new : Seen D) (source : List ℕ) (reply : Reply) → IsKept old.hill → Submits facts old source reply new → AreTrue old.hill → IsAnew old.hill source reply new.hill
anew facts old new source (Reply.Placed entry rank score) kept is holds =
    anew_answered old.hill source (Reply.Placed entry rank score) new.hill refl kept.hill holds is.0 is.1.hill
anew facts old new source (Reply.Fell entry score) kept is holds =
    anew_answered old.hill source (Reply.Fell entry score) new.hill refl kept.hill holds is.0 is.1.hill
anew facts old new source (Reply.Refused fault) kept is holds =
    let left : IsLeft old new = is.2 in
    anew_answered old.hill source (Reply.Refused fault) new.hill refl kept.hill holds is.0 (ap (λ (s : Seen _). s.hill) left.same ∙ sym is.1)
anew facts old new source Reply.Memory kept is holds =
    let left : IsLeft old new = is in anew_left old.hill source Reply.Memory new.hill refl holds (ap (λ (s : Seen _). s.hill) left.same)
anew facts old new source Reply.Worn kept is holds =
    let left : IsLeft old new = is.2 in anew_left old.hill source Reply.Worn new.hill refl holds (ap (λ (s : Seen _). s.hill) left.same)
anew facts old new source Reply.Disk kept is holds =
    let cut : IsCut facts old (kept_next old.hill source) new = is.1 in anew_left old.hill source Reply.Disk new.hill refl holds cut.hill
anew facts old new source Reply.Reopen kept is holds = anew_left old.hill source Reply.Reopen new.hill refl holds (ap (λ (s : Seen _). s.hill) is.1)

pub laws_of_kept : LawsOfKept
laws_of_kept = record { reply = fought_reply; next = fought_next; rows = fought_rows }
