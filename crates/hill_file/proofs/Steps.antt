-- What a careful device has done, step by step.
use Rattle.std.proofs.{Common.{◌≡◌, ◌⊎◌, inl, inr, refl, sym, subst, true, true≢false, ℕ, ◌+◌, ◌<◌, List, [], ◌∷◌, ◌++◌, Result, Ok, Err, IsErr, arith}, lemmas.Bool.cases_lt}
use Rattle.std.specs.{Bool.⊤, Prelude.{MatchResult}}
use Rattle.hill_file.specs.{declared.careful_device.CarefulDevice.CarefulDevice, declared.sector_file.Headers.Headers, Done.{Done, Reads}}
use Rattle.hill_file.specs.Careful.{EachWasWritten, HasDone, IsAsRead, IsLook, IsLookAtMost, IsNaming, IsRead, IsSure, IsSync, Opening, WasWritten, WritesNone, remembered}

-- what holds at an Err
pub at_err : {T E Q : Type 0} (P : Type 0) (result : Result T E) → IsErr result → Q → MatchResult result (λ _. P) (λ _. Q)
at_err P (Ok value) is it = absurd (true≢false (sym is))
at_err P (Err error) is it = it

-- what holds at each answer holds of more
pub at_ok : {T E P Q : Type 0} (result : Result T E) → (P → Q) → MatchResult result (λ _. P) (λ _. ⊤) → MatchResult result (λ _. Q) (λ _. ⊤)
at_ok (Ok value) more it = more it
at_ok (Err error) more it = it

-- what holds holds at each answer
pub at_each : {T E P : Type 0} (result : Result T E) → P → MatchResult result (λ _. P) (λ _. ⊤)
at_each (Ok value) it = it
at_each (Err error) it = tt

-- a sync of the name writes nothing
pub writes_none : (start : Opening) (log done : List Done) → IsNaming start log done → WritesNone done
writes_none start log done (inl none) = subst WritesNone (sym none) tt
writes_none start log done (inr one) = subst WritesNone (sym one) tt

module _ {F : Type 0} (happened : F → List Done → Type 0) (start : Opening) (log : List Done) where
  -- something was done since, and it is so
  abbrev pub HasGone : (List Done → Type 0) → CarefulDevice F → Type 0
  HasGone IsSo device = (done : List Done) × IsSo done × HasDone happened start device (done ++ log)

  -- a sector was read, or not
  pub read_on : {T E : Type 0} (device : CarefulDevice F) (file : F) (faults n : ℕ) (content : List ℕ) (result : Result T E)
      → Reads happened n device.file content result file → HasDone happened start device log
      → HasGone (IsRead n content result start log)
      (record { file = file; sectors = device.sectors; known = device.known; settled = device.settled; doubt = device.doubt; named = device.named; faults = faults })
  read_on device file faults n content (Ok value) reads on =
      (Done.Read n content ∷ [], refl, record { history = reads log on.history; known = on.known; careful = on.careful; sure = on.sure; named = on.named })
  read_on device file faults n content (Err error) reads on =
      ([], refl, record { history = reads log on.history; known = on.known; careful = on.careful; sure = on.sure; named = on.named })

  -- one sector more was written again
  pub put_again : (device : CarefulDevice F) (n : ℕ) (content : List ℕ) (headers : Headers) (before done : List Done)
      → done ≡ Done.Wrote n content ∷ Done.Looked headers ∷ []
      → HasDone happened start device (done ++ Done.Read n content ∷ (before ++ log))
      → IsAsRead before → EachWasWritten n (before ++ log)
      → HasGone (λ all. IsAsRead all × EachWasWritten (n + 1) (all ++ log)) device
  put_again device n content headers before done is on as_read written = (
    Done.Wrote n content ∷ Done.Looked headers ∷ Done.Read n content ∷ before,
    (((refl, refl), as_read), one_more),
    subst (λ xs. HasDone happened start device (xs ++ Done.Read n content ∷ (before ++ log))) is on,
  )
    where
      one_more : (k : ℕ) → k < n + 1 → (n ≡ k) ⊎ WasWritten k (before ++ log)
      one_more k less = elim (cases_lt k n) [ inl below ↦ inr (written k below) | inr above ↦ inl (omega (arith, less, above)) ]

  -- it was not, or not for sure
  pub put_left : (device : CarefulDevice F) (n : ℕ) (content : List ℕ) (headers : Headers) (before done : List Done)
      → IsLookAtMost done ⊎ (done ≡ Done.Tried n content ∷ Done.Looked headers ∷ [])
      → HasDone happened start device (done ++ Done.Read n content ∷ (before ++ log))
      → IsAsRead before
      → HasGone IsAsRead device
  put_left device n content headers before done (inl (inl is)) on as_read =
      (Done.Read n content ∷ before, as_read, subst (λ xs. HasDone happened start device (xs ++ Done.Read n content ∷ (before ++ log))) is on)
  put_left device n content headers before done (inl (inr (found, is))) on as_read = (
    Done.Looked found ∷ Done.Read n content ∷ before,
    as_read,
    subst (λ xs. HasDone happened start device (xs ++ Done.Read n content ∷ (before ++ log))) is on,
  )
  put_left device n content headers before done (inr is) on as_read = (
    Done.Tried n content ∷ Done.Looked headers ∷ Done.Read n content ∷ before,
    ((refl, refl), as_read),
    subst (λ xs. HasDone happened start device (xs ++ Done.Read n content ∷ (before ++ log))) is on,
  )

  -- the name was synced after each sector was written again, or no sync of it was due
  pub named_on : (P : Type 0) (sectors : ℕ) (device : CarefulDevice F) (fresh done : List Done)
      → IsAsRead fresh → P ⊎ EachWasWritten sectors (fresh ++ log)
      → IsNaming start (fresh ++ log) done → HasDone happened start device (done ++ (fresh ++ log))
      → HasGone (λ all. IsAsRead all × (P ⊎ EachWasWritten sectors (all ++ log))) device
  named_on P sectors device fresh done is each (inl none) on =
      (fresh, (is, each), subst (λ xs. HasDone happened start device (xs ++ (fresh ++ log))) none on)
  named_on P sectors device fresh done is each (inr one) on =
      (Done.Named ∷ fresh, (is, each), subst (λ xs. HasDone happened start device (xs ++ (fresh ++ log))) one on)

  -- the last look of a sync, in whatever way it came out
  pub synced : {T E : Type 0} (sectors : ℕ) (device : CarefulDevice F) (result : Result T E) (done last : List Done)
      → IsAsRead done → IsSure start sectors (Done.Synced ∷ (done ++ log)) → device.named ≡ true
      → IsLook result start (Done.Synced ∷ (done ++ log)) last
      → HasDone happened start device (last ++ Done.Synced ∷ (done ++ log))
      → HasGone (IsSync sectors result start log) device
  synced sectors device (Ok value) done last is sure named looked on =
      let seen = subst (λ xs. HasDone happened start device (xs ++ Done.Synced ∷ (done ++ log))) looked on in (
        Done.Looked (remembered start (done ++ log)) ∷ Done.Synced ∷ done,
        (is, ((refl, sure), seen.named named)),
        seen,
      )
  synced sectors device (Err error) done last is sure named (inl looked) on =
      (Done.Synced ∷ done, (is, tt), subst (λ xs. HasDone happened start device (xs ++ Done.Synced ∷ (done ++ log))) looked on)
  synced sectors device (Err error) done last is sure named (inr (found, looked)) on =
      (Done.Looked found ∷ Done.Synced ∷ done, (is, tt), subst (λ xs. HasDone happened start device (xs ++ Done.Synced ∷ (done ++ log))) looked on)

  -- the last look of a sync that writes nothing
  pub looked_after : {T E : Type 0} (device : CarefulDevice F) (result : Result T E) (done last : List Done)
      → WritesNone done → IsLook result start (Done.Synced ∷ (done ++ log)) last
      → HasDone happened start device (last ++ Done.Synced ∷ (done ++ log))
      → HasGone WritesNone device
  looked_after device (Ok value) done last is looked on = (
    Done.Looked (remembered start (done ++ log)) ∷ Done.Synced ∷ done,
    is,
    subst (λ xs. HasDone happened start device (xs ++ Done.Synced ∷ (done ++ log))) looked on,
  )
  looked_after device (Err error) done last is (inl looked) on =
      (Done.Synced ∷ done, is, subst (λ xs. HasDone happened start device (xs ++ Done.Synced ∷ (done ++ log))) looked on)
  looked_after device (Err error) done last is (inr (found, looked)) on =
      (Done.Looked found ∷ Done.Synced ∷ done, is, subst (λ xs. HasDone happened start device (xs ++ Done.Synced ∷ (done ++ log))) looked on)
