-- What a submission makes of the store.
use Rattle.std.proofs.Common.{◌≡◌, inl, inr, ℕ, ◌+◌, ◌-◌, ◌^◌, true, false, true≢false, arith, List, [], ◌∷◌, refl, sym, ap, subst, ◌∙◌}
use Rattle.{koth_hill.specs.Kept.Kept, sector_disk.specs.{Facts.DeviceFacts, Served.IsKept, Image.Images}, hill_images.specs.Stands.Reads, hill_store.specs.Seen.{IsAnswered, Seen, Submits}}
use Rattle.{hill_store.specs.{Earned.kept_next, declared.reply.Reply.Reply}, hill_store.proofs.Counting.source_counts}
use Rattle.koth_session.specs.{Reply.reply_line, Sessions.{HasWorn, AreServed, IsLeftOff, has_failed}, Transcript.{Exchange, Mark, answer, hill_after}}
use Rattle.koth_session.proofs.Exchanges.{after_one, served_same}

module _ {D : Type 0} (facts : DeviceFacts D) where
  left : (old new : Seen D) (e : Exchange) → new ≡ old → hill_after old.hill (e ∷ []) ≡ old.hill → (HasWorn (e ∷ []) → old.generation ≡ 2 ^ 64 - 1)
      → old.reopen ≡ false → AreServed facts old new (e ∷ [])
  left old new e same hill worn is_open = subst (λ s. AreServed facts old s (e ∷ [])) (sym same) (served_same facts old e hill worn (λ has. is_open))

  moved : (old new : Seen D) (source : List ℕ) → IsAnswered facts old (kept_next old.hill source) new
      → (kept_next old.hill source).counter ≡ old.hill.counter + 1 → IsKept facts old.device new.device → (old.generation ≡ 2 ^ 64 - 1 → new ≡ old)
      → AreServed facts old new (Exchange.Submission source Mark.Taken ∷ [])
  moved old new source is counted kept full = record {
    hill = is.hill;
    generation =
        let written : new.generation ≡ old.generation + 1 = is.generation in
        let one_more : new.hill.counter ≡ old.hill.counter + 1 = ap (λ (k : Kept). k.counter) is.hill ∙ counted in
        omega (arith, written, one_more);
    still = is.open_still ∙ sym is.was_open;
    open_at = λ has. is.was_open;
    kept = kept;
    worn = λ worn. absurd worn;
    full = λ most. ap (λ (s : Seen D). s.generation) (full most) ∙ most;
    reads = λ lawful open_still reads. subst (λ k. Images (facts.disk new.device) (λ image. Reads (facts.size new.device) image k)) (sym is.hill) (is.reads lawful);
    anew = after_one old.hill new.hill (Exchange.Submission source Mark.Taken) is.hill (λ was. is.kept.hill);
  }

  -- the exchange that a submission is, if the device did not fail
  abbrev pub IsExchanged : Seen D → Seen D → List ℕ → Reply → Type 0
  IsExchanged old new source reply = (mark : Mark) × (reply_line reply ≡ answer old.hill (Exchange.Submission source mark))
      × AreServed facts old new (Exchange.Submission source mark ∷ [])

  pub exchanged : (old new : Seen D) (source : List ℕ) (reply : Reply) → Submits facts old source reply new
      → IsKept facts old.device new.device → (old.generation ≡ 2 ^ 64 - 1 → new ≡ old)
      → has_failed reply ≡ false → IsExchanged old new source reply
  exchanged old new source (Reply.Placed entry rank score) s kept full sound =
      (Mark.Taken, ap reply_line s.0, moved old new source s.1 (source_counts old.hill source _ s.0 refl) kept full)
  exchanged old new source (Reply.Fell entry score) s kept full sound =
      (Mark.Taken, ap reply_line s.0, moved old new source s.1 (source_counts old.hill source _ s.0 refl) kept full)
  exchanged old new source (Reply.Refused fault) s kept full sound =
      (Mark.Taken, ap reply_line s.0, left old new (Exchange.Submission source Mark.Taken) s.2.same s.1 (λ worn. absurd worn) s.2.was_open)
  exchanged old new source Reply.Memory s kept full sound =
      (Mark.NoMemory, refl, left old new (Exchange.Submission source Mark.NoMemory) s.same refl (λ worn. absurd worn) s.was_open)
  exchanged old new source Reply.Worn s kept full sound =
      (Mark.Worn, refl, left old new (Exchange.Submission source Mark.Worn) s.2.same refl (λ worn. s.0) s.2.was_open)
  exchanged old new source Reply.Disk s kept full sound = absurd (cc)
  exchanged old new source Reply.Reopen s kept full sound = absurd (cc)

  -- the device failed in it, or before
  pub left_off : (old new : Seen D) (source : List ℕ) (reply : Reply) → Submits facts old source reply new
      → IsKept facts old.device new.device → (old.generation ≡ 2 ^ 64 - 1 → new ≡ old) → has_failed reply ≡ true → IsLeftOff facts old new source
  left_off old new source (Reply.Placed entry rank score) s kept full failed = absurd (cc)
  left_off old new source (Reply.Fell entry score) s kept full failed = absurd (cc)
  left_off old new source (Reply.Refused fault) s kept full failed = absurd (cc)
  left_off old new source Reply.Memory s kept full failed = absurd (cc)
  left_off old new source Reply.Worn s kept full failed = absurd (cc)
  left_off old new source Reply.Disk s kept full failed =
      let cut = s.1 in record {
        hill = cut.hill;
        generation = cut.generation;
        broken = cut.broken;
        kept = kept;
        cause = inr cut.cause;
        full = λ most. ap (λ (x : Seen D). x.generation) (full most) ∙ most;
        reads = λ lawful is_open. cut.reads lawful;
      }
  left_off old new source Reply.Reopen s kept full failed = record {
    hill = ap (λ (x : Seen D). x.hill) s.1;
    generation = ap (λ (x : Seen D). x.generation) s.1;
    broken = ap (λ (x : Seen D). x.reopen) s.1 ∙ s.0;
    kept = kept;
    cause = inl s.0;
    full = λ most. ap (λ (x : Seen D). x.generation) (full most) ∙ most;
    reads = λ lawful is_open. absurd (true≢false (sym s.0 ∙ is_open));
  }
