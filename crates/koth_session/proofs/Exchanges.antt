-- What exchanges make of the store, one after another.
use Rattle.std.proofs.Common.{◌≡◌, ◌⊎◌, inl, inr, ℕ, ◌+◌, ◌-◌, ◌^◌, false, arith, List, [], ◌∷◌, ◌++◌, refl, sym, ap, ap₂, subst, ◌∙◌, append_assoc}
use Rattle.{koth_hill.specs.{Hill.{Hill, IsHill}, Kept.{Kept, fought, hill_in}}, sector_disk.specs.Facts.DeviceFacts, sector_disk.proofs.Kept.{kept_on, kept_same}}
use Rattle.{hill_store.specs.Seen.Seen, hill_store.proofs.Fought.{fought_next, fought_reply, fought_rows}, koth_protocol.specs.Table.show_text}
use Rattle.koth_session.specs.{Reply.reply_line, Sessions.{AreServed, HasSubmission, HasWorn, IsAfter}}
use Rattle.koth_session.specs.Transcript.{Exchange, Mark, after_anew, answer, answer_anew, hill_after, hill_next, next_anew, transcript, transcript_anew}

pub hill_append : (h : Kept) (es fs : List Exchange) → hill_after h (es ++ fs) ≡ hill_after (hill_after h es) fs
hill_append h [] fs = refl
hill_append h (e ∷ es) fs = hill_append (hill_next h e) es fs

pub transcript_append : (h : Kept) (es fs : List Exchange) → transcript h (es ++ fs) ≡ transcript h es ++ transcript (hill_after h es) fs
transcript_append h [] fs = refl
transcript_append h (e ∷ es) fs =
    ap (λ l. answer h e ++ l) (transcript_append (hill_next h e) es fs)
    ∙ sym (append_assoc (answer h e) (transcript (hill_next h e) es) (transcript (hill_after (hill_next h e) es) fs))

after_append : (h : Hill) (es fs : List Exchange) → after_anew h (es ++ fs) ≡ after_anew (after_anew h es) fs
after_append h [] fs = refl
after_append h (e ∷ es) fs = after_append (next_anew h e) es fs

anew_append : (h : Hill) (es fs : List Exchange) → transcript_anew h (es ++ fs) ≡ transcript_anew h es ++ transcript_anew (after_anew h es) fs
anew_append h [] fs = refl
anew_append h (e ∷ es) fs =
    ap (λ l. answer_anew h e ++ l) (anew_append (next_anew h e) es fs)
    ∙ sym (append_assoc (answer_anew h e) (transcript_anew (next_anew h e) es) (transcript_anew (after_anew (next_anew h e) es) fs))

-- what is kept after more exchanges
after_more : (hill : Hill) (es fs : List Exchange) (mid new : Kept) → mid ≡ hill_after (fought hill) es → IsAfter hill es mid → IsAfter (after_anew hill es) fs new → IsAfter hill (es ++ fs) new
after_more hill es fs mid new through first second = record {
  is_hill = subst IsHill (sym (after_append hill es fs)) second.is_hill;
  fought_is = second.fought_is ∙ ap fought (sym (after_append hill es fs));
  transcript_is =
      transcript_append (fought hill) es fs
      ∙ ap₂ (λ (xs ys : List ℕ). xs ++ ys) first.transcript_is (ap (λ (k : Kept). transcript k fs) (sym through ∙ first.fought_is) ∙ second.transcript_is)
      ∙ sym (anew_append hill es fs);
}

next_is : (hill : Hill) (e : Exchange) → IsHill hill → hill_next (fought hill) e ≡ fought (next_anew hill e)
next_is hill (Exchange.Submission source Mark.Taken) is = fought_next hill source is
next_is hill (Exchange.Submission source Mark.NoMemory) is = refl
next_is hill (Exchange.Submission source Mark.Worn) is = refl
next_is hill Exchange.Table is = refl
next_is hill Exchange.BadLine is = refl

answer_is : (hill : Hill) (e : Exchange) → IsHill hill → answer (fought hill) e ≡ answer_anew hill e
answer_is hill (Exchange.Submission source Mark.Taken) is = ap reply_line (fought_reply hill source is)
answer_is hill (Exchange.Submission source Mark.NoMemory) is = refl
answer_is hill (Exchange.Submission source Mark.Worn) is = refl
answer_is hill Exchange.Table is = ap show_text (fought_rows hill is)
answer_is hill Exchange.BadLine is = refl

-- what is kept after one exchange that leaves a hill
pub after_one : (old new : Kept) (e : Exchange) → new ≡ hill_after old (e ∷ []) → (IsHill (hill_in old) → IsHill (hill_in new)) → (hill : Hill) → IsHill hill → old ≡ fought hill → IsAfter hill (e ∷ []) new
after_one old new e moved is_new hill is same =
    let now : new ≡ fought (next_anew hill e) = moved ∙ ap (λ (k : Kept). hill_next k e) same ∙ next_is hill e is in record {
      is_hill = subst (λ (k : Kept). IsHill (hill_in k)) now (is_new (subst (λ (k : Kept). IsHill (hill_in k)) (sym same) is));
      fought_is = now;
      transcript_is = ap (λ l. l ++ []) (answer_is hill e is);
    }

worn_in : (es fs : List Exchange) → HasWorn (es ++ fs) → HasWorn es ⊎ HasWorn fs
worn_in [] fs worn = inr worn
worn_in (Exchange.Submission source Mark.Worn ∷ es) fs worn = inl tt
worn_in (Exchange.Submission source Mark.NoMemory ∷ es) fs worn = worn_in es fs worn
worn_in (Exchange.Submission source Mark.Taken ∷ es) fs worn = worn_in es fs worn
worn_in (Exchange.Table ∷ es) fs worn = worn_in es fs worn
worn_in (Exchange.BadLine ∷ es) fs worn = worn_in es fs worn

submission_in : (es fs : List Exchange) → HasSubmission (es ++ fs) → HasSubmission es ⊎ HasSubmission fs
submission_in [] fs has = inr has
submission_in (Exchange.Submission source mark ∷ es) fs has = inl tt
submission_in (Exchange.Table ∷ es) fs has = submission_in es fs has
submission_in (Exchange.BadLine ∷ es) fs has = submission_in es fs has

module _ {D : Type 0} (facts : DeviceFacts D) where
  pub served_none : (s : Seen D) → AreServed facts s s []
  served_none s = record {
    hill = refl;
    generation = refl;
    still = refl;
    open_at = λ has. absurd has;
    kept = kept_same facts s.device;
    worn = λ worn. absurd worn;
    full = λ is. is;
    reads = λ is open_still reads. reads;
    anew = λ hill is same. record { is_hill = is; fought_is = same; transcript_is = refl };
  }

  -- an exchange that changed nothing
  pub served_same : (s : Seen D) (e : Exchange) → hill_after s.hill (e ∷ []) ≡ s.hill → (HasWorn (e ∷ []) → s.generation ≡ 2 ^ 64 - 1)
      → (HasSubmission (e ∷ []) → s.reopen ≡ false) → AreServed facts s s (e ∷ [])
  served_same s e same worn open_at = record {
    hill = sym same;
    generation = refl;
    still = refl;
    open_at = open_at;
    kept = kept_same facts s.device;
    worn = worn;
    full = λ is. is;
    reads = λ is open_still reads. reads;
    anew = after_one s.hill s.hill e (sym same) (λ is. is);
  }

  pub served_on : (a b c : Seen D) (es fs : List Exchange) → AreServed facts a b es → AreServed facts b c fs
      → AreServed facts a c (es ++ fs)
  served_on a b c es fs p q = record {
    hill = q.hill ∙ ap (λ h. hill_after h fs) p.hill ∙ sym (hill_append a.hill es fs);
    generation =
        let first : b.generation + a.hill.counter ≡ a.generation + b.hill.counter = p.generation in
        let second : c.generation + b.hill.counter ≡ b.generation + c.hill.counter = q.generation in
        omega (arith, first, second);
    still = q.still ∙ p.still;
    open_at = λ has. elim (submission_in es fs has) [ inl first ↦ p.open_at first | inr second ↦ sym p.still ∙ q.open_at second ];
    kept = kept_on facts a.device b.device c.device p.kept q.kept;
    worn = λ worn. elim (worn_in es fs worn) [ inl first ↦ q.full (p.worn first) | inr second ↦ q.worn second ];
    full = λ is. q.full (p.full is);
    reads = λ is open_still reads. q.reads (p.kept.same_laws.1 is) (p.still ∙ open_still) (p.reads is open_still reads);
    anew = λ hill is same.
        let first = p.anew hill is same in
        after_more hill es fs b.hill c.hill (p.hill ∙ ap (λ (k : Kept). hill_after k es) same) first (q.anew (after_anew hill es) first.is_hill first.fought_is);
  }
