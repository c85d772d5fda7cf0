-- What a store holds after each submission, and after a list of them.
use Rattle.std.proofs.Common.{◌≡◌, ◌⊎◌, ℕ, true, false, List, [], ◌∷◌, ◌++◌, Option, refl, sym, ap, subst, ◌∙◌, append-nil, append_assoc}
use Rattle.{war_types.specs.declared.settings.RawSettings.RawSettings, koth_hill.specs.{Hill.{Hill, IsHill}, Kept.{fought, hill_in}, Step.new_hill}, sector_disk.specs.Facts.DeviceFacts}
use Rattle.{sector_disk.specs.{Image.Images, Disk.current}, sector_disk.proofs.Images.images_read, hill_images.specs.Stands.{Reads, Stands}, hill_images.proofs.Shown.reads_hill}
use Rattle.hill_store.specs.{declared.reply.Reply.Reply, Earned.{step_source, steps, earned, kept_next}, Seen.{Seen, IsAnswered, IsCut, IsLeft, Submits}, Runs.RunsOn}
use Rattle.{hill_store.specs.Holding.{answered, under_way, IsHolding, IsCutOff, IsHeldWith, HoldsMore}, hill_store.proofs.Fought.fought_next}

steps_more : (h : Hill) (xs : List (List ℕ)) (x : List ℕ) → steps h (xs ++ x ∷ []) ≡ step_source (steps h xs) x
steps_more h [] x = refl
steps_more h (y ∷ xs) x = steps_more (step_source h y) xs x

-- one more source is one more step
pub earned_more : (s : RawSettings) (xs : List (List ℕ)) (x : List ℕ) → earned s (xs ++ x ∷ []) ≡ step_source (earned s xs) x
earned_more s xs x = steps_more (new_hill s 0) xs x

-- what a device stands for is a hill
pub earned_hill : {D : Type 0} (facts : DeviceFacts D) (s : RawSettings) (before : List (List ℕ)) (store : Seen D) → IsHolding facts s before store → IsHill (earned s before)
earned_hill facts s before store holding =
    reads_hill (facts.size store.device) (current (facts.disk store.device)) (fought (earned s before))
    (images_read (facts.disk store.device) (λ image. Stands (facts.size store.device) image (earned s before)) holding.holds)

-- the hill of a store that holds what sources earn, after one more
pub next_earned : {D : Type 0} (facts : DeviceFacts D) (s : RawSettings) (before : List (List ℕ)) (source : List ℕ) (store : Seen D) → IsHolding facts s before store → kept_next store.hill source ≡ fought (earned s (before ++ source ∷ []))
next_earned facts s before source store holding =
    ap (λ k. kept_next k source) holding.hill ∙ fought_next (earned s before) source (earned_hill facts s before store holding) ∙ ap fought (sym (earned_more s before source))

true_false : true ≡ false → ⊥
true_false same = cc

-- nothing was submitted
left_holds : {D : Type 0} (facts : DeviceFacts D) (s : RawSettings) (before : List (List ℕ)) (old new : Seen D) → IsHolding facts s before old → new ≡ old → IsHolding facts s (before ++ []) new
left_holds facts s before old new holding same =
    subst (λ xs. IsHolding facts s xs new) (sym (append-nil before))
    (subst (λ store. IsHolding facts s before store) (sym same) holding)

-- the source was refused, and takes the hill no step
refused_holds : {D : Type 0} (facts : DeviceFacts D) (s : RawSettings) (before : List (List ℕ)) (source : List ℕ) (old new : Seen D) → IsHolding facts s before old → kept_next old.hill source ≡ old.hill → new ≡ old → IsHolding facts s (before ++ source ∷ []) new
refused_holds {D} facts s before source old new holding stays same =
    subst (λ store. IsHolding facts s (before ++ source ∷ []) store) (sym same) (record {
      lawful = holding.lawful;
      open_now = holding.open_now;
      hill = sym stays ∙ next;
      holds = subst (λ h. Images (facts.disk old.device) (λ image. Stands (facts.size old.device) image h)) (ap hill_in (sym holding.hill ∙ sym stays ∙ next)) holding.holds;
    })
  where
    next : kept_next old.hill source ≡ fought (earned s (before ++ source ∷ []))
    next = next_earned facts s before source old holding

-- it was placed or fell
answered_holds : {D : Type 0} (facts : DeviceFacts D) (s : RawSettings) (before : List (List ℕ)) (source : List ℕ) (old new : Seen D) → IsHolding facts s before old → facts.lawful new.device → IsAnswered facts old (kept_next old.hill source) new → IsHolding facts s (before ++ source ∷ []) new
answered_holds facts s before source old new holding lawful is = record {
  lawful = lawful;
  open_now = is.open_still;
  hill = is.hill ∙ next;
  holds = subst (λ k. Images (facts.disk new.device) (λ image. Reads (facts.size new.device) image k)) next (is.reads holding.lawful);
}
  where
    next : kept_next old.hill source ≡ fought (earned s (before ++ source ∷ []))
    next = next_earned facts s before source old holding

-- the device failed
cut_holds : {D : Type 0} (facts : DeviceFacts D) (s : RawSettings) (before : List (List ℕ)) (source : List ℕ) (old new : Seen D) → IsHolding facts s before old → facts.lawful new.device → IsCut facts old (kept_next old.hill source) new → IsCutOff facts s (before ++ []) source new
cut_holds facts s before source old new holding lawful is =
    subst (λ xs. IsCutOff facts s xs source new) (sym (append-nil before)) (record {
      lawful = lawful;
      broken = is.broken;
      hill = is.hill ∙ holding.hill;
      holds = subst (λ k. Images (facts.disk new.device) (λ image. Stands (facts.size new.device) image (earned s before) ⊎ Reads (facts.size new.device) image k)) (next_earned facts s before source old holding)
          (subst (λ k. Images (facts.disk new.device) (λ image. Reads (facts.size new.device) image k ⊎ Reads (facts.size new.device) image (kept_next old.hill source))) holding.hill (is.reads holding.lawful));
    })

-- after one submission
pub holds_one : {D : Type 0} (facts : DeviceFacts D) (s : RawSettings) (before : List (List ℕ)) (old new : Seen D) (source : List ℕ) (reply : Reply) → IsHolding facts s before old → facts.lawful new.device → Submits facts old source reply new → HoldsMore facts s before (source ∷ []) (reply ∷ []) new
holds_one facts s before old new source (Reply.Placed entry rank score) holding lawful submits =
    answered_holds facts s before source old new holding lawful submits.1
holds_one facts s before old new source (Reply.Fell entry score) holding lawful submits =
    answered_holds facts s before source old new holding lawful submits.1
holds_one facts s before old new source (Reply.Refused fault) holding lawful submits =
    let left : IsLeft old new = submits.2 in refused_holds facts s before source old new holding submits.1 left.same
holds_one facts s before old new source Reply.Memory holding lawful submits =
    let left : IsLeft old new = submits in left_holds facts s before old new holding left.same
holds_one facts s before old new source Reply.Worn holding lawful submits =
    let left : IsLeft old new = submits.2 in left_holds facts s before old new holding left.same
holds_one facts s before old new source Reply.Disk holding lawful submits = cut_holds facts s before source old new holding lawful submits.1
holds_one facts s before old new source Reply.Reopen holding lawful submits = absurd (true_false (sym submits.0 ∙ holding.open_now))

-- the sources before a list, and those of it that were answered
more_holds : {D : Type 0} (facts : DeviceFacts D) (s : RawSettings) (before xs : List (List ℕ)) (x : List ℕ) (cut : Option (List ℕ)) (new : Seen D) → IsHeldWith facts s ((before ++ x ∷ []) ++ xs) cut new → IsHeldWith facts s (before ++ x ∷ xs) cut new
more_holds facts s before xs x cut new holds = subst (λ ys. IsHeldWith facts s ys cut new) (append_assoc before (x ∷ []) xs) holds

none_holds : {D : Type 0} (facts : DeviceFacts D) (s : RawSettings) (before : List (List ℕ)) (store : Seen D) → IsHolding facts s (before ++ []) store → IsHolding facts s before store
none_holds facts s before store holds = subst (λ xs. IsHolding facts s xs store) (append-nil before) holds

-- nothing was submitted after a `Disk`
stopped_holds : {D : Type 0} (facts : DeviceFacts D) (s : RawSettings) (before xs : List (List ℕ)) (x : List ℕ) (rs : List Reply) (mid new : Seen D) → RunsOn facts true mid xs rs new → IsCutOff facts s (before ++ []) x mid → HoldsMore facts s before (x ∷ xs) (Reply.Disk ∷ rs) new
stopped_holds facts s before [] x [] mid new runs cut = subst (λ store. IsCutOff facts s (before ++ []) x store) (sym runs) cut
stopped_holds facts s before (y ∷ xs) x [] mid new runs cut = subst (λ store. IsCutOff facts s (before ++ []) x store) (sym runs) cut
stopped_holds facts s before [] x (r ∷ rs) mid new runs cut = absurd runs
stopped_holds facts s before (y ∷ xs) x (r ∷ rs) mid new runs cut = absurd runs

-- after a list of them
pub holds_runs : {D : Type 0} (facts : DeviceFacts D) (s : RawSettings) (before : List (List ℕ)) (old new : Seen D) (xs : List (List ℕ)) (rs : List Reply) → RunsOn facts false old xs rs new → IsHolding facts s before old → HoldsMore facts s before xs rs new
holds_runs facts s before old new [] [] runs holding = left_holds facts s before old new holding runs
holds_runs facts s before old new [] (r ∷ rs) runs holding = absurd runs
holds_runs facts s before old new (x ∷ xs) [] runs holding = absurd runs
holds_runs facts s before old new (x ∷ xs) (Reply.Placed entry rank score ∷ rs) runs holding =
    more_holds facts s before (answered xs rs) x (under_way xs rs) new
    (holds_runs facts s (before ++ x ∷ []) runs.0 new xs rs runs.2
    (holds_one facts s before old runs.0 x (Reply.Placed entry rank score) holding (runs.1.kept.same_laws.1 holding.lawful) runs.1.submits))
holds_runs facts s before old new (x ∷ xs) (Reply.Fell entry score ∷ rs) runs holding =
    more_holds facts s before (answered xs rs) x (under_way xs rs) new
    (holds_runs facts s (before ++ x ∷ []) runs.0 new xs rs runs.2
    (holds_one facts s before old runs.0 x (Reply.Fell entry score) holding (runs.1.kept.same_laws.1 holding.lawful) runs.1.submits))
holds_runs facts s before old new (x ∷ xs) (Reply.Refused fault ∷ rs) runs holding =
    more_holds facts s before (answered xs rs) x (under_way xs rs) new
    (holds_runs facts s (before ++ x ∷ []) runs.0 new xs rs runs.2
    (holds_one facts s before old runs.0 x (Reply.Refused fault) holding (runs.1.kept.same_laws.1 holding.lawful) runs.1.submits))
holds_runs facts s before old new (x ∷ xs) (Reply.Memory ∷ rs) runs holding =
    holds_runs facts s before runs.0 new xs rs runs.2
    (none_holds facts s before runs.0
    (holds_one facts s before old runs.0 x Reply.Memory holding (runs.1.kept.same_laws.1 holding.lawful) runs.1.submits))
holds_runs facts s before old new (x ∷ xs) (Reply.Worn ∷ rs) runs holding =
    holds_runs facts s before runs.0 new xs rs runs.2
    (none_holds facts s before runs.0
    (holds_one facts s before old runs.0 x Reply.Worn holding (runs.1.kept.same_laws.1 holding.lawful) runs.1.submits))
holds_runs facts s before old new (x ∷ xs) (Reply.Reopen ∷ rs) runs holding =
    holds_runs facts s before runs.0 new xs rs runs.2
    (none_holds facts s before runs.0
    (holds_one facts s before old runs.0 x Reply.Reopen holding (runs.1.kept.same_laws.1 holding.lawful) runs.1.submits))
holds_runs facts s before old new (x ∷ xs) (Reply.Disk ∷ rs) runs holding =
    stopped_holds facts s before xs x rs runs.0 new runs.2
    (holds_one facts s before old runs.0 x Reply.Disk holding (runs.1.kept.same_laws.1 holding.lawful) runs.1.submits)
