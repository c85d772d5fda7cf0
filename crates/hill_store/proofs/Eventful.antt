-- What the calls of a store are in the life of its device: for `calls_in_lives`.
use Rattle.{std.proofs.Common.{◌≡◌, ◌⊎◌, ℕ, true, false, List, [], ◌∷◌, refl, sym, ap, subst, ◌∙◌}, koth_hill.specs.{Hill.{Hill, IsHill}, Kept.{Kept, fought}}}
use Rattle.{sector_disk.specs.{Facts.DeviceFacts, Disk.{Disk, current}, Image.Images, Served.IsKept}, sector_disk.proofs.Images.images_read, hill_images.specs.Stands.{Reads, Stands}}
use Rattle.hill_images.proofs.{Newest.reads_once, Shown.reads_hill}
use Rattle.hill_store.specs.{declared.reply.Reply.Reply, Earned.{step_source, steps, kept_next}, Seen.{Seen, IsAnswered, IsCut, IsLeft, IsStanding}, Runs.{IsSubmitted, RunsOn}}
use Rattle.{hill_store.specs.{Lives.{Event, Lives, MovesOn, MayMoveOn}, Calls.{events_of, events_in, CallsAreEvents}}, hill_store.proofs.Fought.fought_next}

true_false : true ≡ false → ⊥
true_false same = cc

-- every image of a device reads as this hill, and stands for that one, which is then the same
same_hill : (size : ℕ) (disk : Disk) (k : Kept) (other : Hill) → Images disk (λ image. Reads size image k) → Images disk (λ image. Stands size image other) → k ≡ fought other
same_hill size disk k other reads stands =
    reads_once size (current disk) k (fought other) (images_read disk (λ image. Reads size image k) reads) (images_read disk (λ image. Stands size image other) stands)

stood_for : (size : ℕ) (disk : Disk) (other : Hill) → Images disk (λ image. Stands size image other) → IsHill other
stood_for size disk other stands = reads_hill size (current disk) (fought other) (images_read disk (λ image. Stands size image other) stands)

pub moves_on : (size : ℕ) (old new : Disk) (k next : Kept) (sources : List (List ℕ)) → Images old (λ image. Reads size image k) → Images new (λ image. Reads size image next)
    → ((h : Hill) → IsHill h → k ≡ fought h → next ≡ fought (steps h sources)) → MovesOn size sources old new
moves_on size old new k next sources held now earns = λ other. λ is_other.
    subst (λ x. Images new (λ image. Reads size image x)) (earns other (stood_for size old other is_other) (same_hill size old k other held is_other)) now

pub may_move_on : (size : ℕ) (old new : Disk) (k next : Kept) (source : List ℕ) → Images old (λ image. Reads size image k) → Images new (λ image. Reads size image k ⊎ Reads size image next)
    → ((h : Hill) → IsHill h → k ≡ fought h → next ≡ fought (step_source h source)) → MayMoveOn size source old new
may_move_on size old new k next source held now earns = λ other. λ is_other.
    let same : k ≡ fought other = same_hill size old k other held is_other in
    subst (λ x. Images new (λ image. Stands size image other ⊎ Reads size image x)) (earns other (stood_for size old other is_other) same)
    (subst (λ x. Images new (λ image. Reads size image x ⊎ Reads size image next)) same now)

-- what one source earns on true results
pub next_by : (k : Kept) (source : List ℕ) → (h : Hill) → IsHill h → k ≡ fought h → kept_next k source ≡ fought (step_source h source)
next_by k source h is same = ap (λ x. kept_next x source) same ∙ fought_next h source is

-- a submission that was answered, and those after it
answered_on : {D : Type 0} (facts : DeviceFacts D) (old mid : Seen D) (source : List ℕ) (events : List Event) (new : Disk) → IsStanding facts old → facts.size mid.device ≡ facts.size old.device → Images (facts.disk mid.device) (λ image. Reads (facts.size mid.device) image (kept_next old.hill source)) → Lives (facts.size old.device) true (facts.disk mid.device) events new → Lives (facts.size old.device) true (facts.disk old.device) (Event.Answered (source ∷ []) ∷ events) new
answered_on facts old mid source events new is same next lives = (
  facts.disk mid.device,
  refl,
  moves_on (facts.size old.device) (facts.disk old.device) (facts.disk mid.device) old.hill (kept_next old.hill source) (source ∷ []) is.reads
      (subst (λ n. Images (facts.disk mid.device) (λ image. Reads n image (kept_next old.hill source))) same next) (next_by old.hill source),
  lives,
)

standing_next : {D : Type 0} (facts : DeviceFacts D) (old mid : Seen D) (source : List ℕ) → facts.lawful old.device → IsAnswered facts old (kept_next old.hill source) mid → IsStanding facts mid
standing_next facts old mid source lawful is = record {
  is_open = is.open_still;
  reads = subst (λ h. Images (facts.disk mid.device) (λ image. Reads (facts.size mid.device) image h)) (sym is.hill) (is.reads lawful);
}

-- what a source that was refused leaves
refused_next : {D : Type 0} (facts : DeviceFacts D) (old mid : Seen D) (source : List ℕ) → IsStanding facts old → kept_next old.hill source ≡ old.hill → mid ≡ old → Images (facts.disk mid.device) (λ image. Reads (facts.size mid.device) image (kept_next old.hill source))
refused_next facts old mid source is stays same =
    subst (λ (s : Seen _). Images (facts.disk s.device) (λ image. Reads (facts.size s.device) image (kept_next old.hill source))) (sym same)
    (subst (λ h. Images (facts.disk old.device) (λ image. Reads (facts.size old.device) image h)) (sym stays) is.reads)

-- the events after a submission, on a device of as many sectors
resized : {D : Type 0} (facts : DeviceFacts D) (old mid : Seen D) (events : List Event) (new : Disk) → facts.size mid.device ≡ facts.size old.device → Lives (facts.size mid.device) true (facts.disk mid.device) events new → Lives (facts.size old.device) true (facts.disk mid.device) events new
resized facts old mid events new same lives = subst (λ n. Lives n true (facts.disk mid.device) events new) same lives

-- nothing comes after a `Disk`
none_behind : {D : Type 0} (facts : DeviceFacts D) (size : ℕ) (mid new : Seen D) (sources : List (List ℕ)) (replied : List Reply) → RunsOn facts true mid sources replied new → Lives size false (facts.disk mid.device) (events_in sources replied) (facts.disk new.device)
none_behind facts size mid new [] [] runs = ap (λ (s : Seen _). facts.disk s.device) runs
none_behind facts size mid new (x ∷ xs) [] runs = ap (λ (s : Seen _). facts.disk s.device) runs
none_behind facts size mid new [] (r ∷ rs) runs = absurd runs
none_behind facts size mid new (x ∷ xs) (r ∷ rs) runs = absurd runs

-- submissions one after another
pub ran : {D : Type 0} (facts : DeviceFacts D) (old new : Seen D) (sources : List (List ℕ)) (replied : List Reply) → facts.lawful old.device → IsStanding facts old → RunsOn facts false old sources replied new → Lives (facts.size old.device) true (facts.disk old.device) (events_in sources replied) (facts.disk new.device)
ran facts old new [] [] lawful is runs = ap (λ (s : Seen _). facts.disk s.device) runs
ran facts old new [] (r ∷ rs) lawful is runs = absurd runs
ran facts old new (x ∷ xs) [] lawful is runs = absurd runs
ran facts old new (x ∷ xs) (Reply.Placed entry rank score ∷ rs) lawful is runs =
    let kept : IsKept facts old.device runs.0.device = runs.1.kept in
    answered_on facts old runs.0 x (events_in xs rs) (facts.disk new.device) is kept.same_size (runs.1.submits.1.reads lawful)
    (resized facts old runs.0 (events_in xs rs) (facts.disk new.device) kept.same_size (ran facts runs.0 new xs rs (kept.same_laws.1 lawful) (standing_next facts old runs.0 x lawful runs.1.submits.1) runs.2))
ran facts old new (x ∷ xs) (Reply.Fell entry score ∷ rs) lawful is runs =
    let kept : IsKept facts old.device runs.0.device = runs.1.kept in
    answered_on facts old runs.0 x (events_in xs rs) (facts.disk new.device) is kept.same_size (runs.1.submits.1.reads lawful)
    (resized facts old runs.0 (events_in xs rs) (facts.disk new.device) kept.same_size (ran facts runs.0 new xs rs (kept.same_laws.1 lawful) (standing_next facts old runs.0 x lawful runs.1.submits.1) runs.2))
ran facts old new (x ∷ xs) (Reply.Refused fault ∷ rs) lawful is runs =
    let kept : IsKept facts old.device runs.0.device = runs.1.kept in
    let left : IsLeft old runs.0 = runs.1.submits.2 in
    answered_on facts old runs.0 x (events_in xs rs) (facts.disk new.device) is kept.same_size (refused_next facts old runs.0 x is runs.1.submits.1 left.same)
    (resized facts old runs.0 (events_in xs rs) (facts.disk new.device) kept.same_size
    (ran facts runs.0 new xs rs (kept.same_laws.1 lawful) (subst (λ s. IsStanding facts s) (sym left.same) is) runs.2))
ran facts old new (x ∷ xs) (Reply.Memory ∷ rs) lawful is runs =
    let left : IsLeft old runs.0 = runs.1.submits in
    ran facts old new xs rs lawful is (subst (λ s. RunsOn facts false s xs rs new) left.same runs.2)
ran facts old new (x ∷ xs) (Reply.Worn ∷ rs) lawful is runs =
    let left : IsLeft old runs.0 = runs.1.submits.2 in
    ran facts old new xs rs lawful is (subst (λ s. RunsOn facts false s xs rs new) left.same runs.2)
ran facts old new (x ∷ xs) (Reply.Reopen ∷ rs) lawful is runs = absurd (true_false (sym runs.1.submits.0 ∙ is.is_open))
ran {D} facts old new (x ∷ xs) (Reply.Disk ∷ rs) lawful is runs =
    let kept : IsKept facts old.device runs.0.device = runs.1.kept in
    let cut : IsCut facts old (kept_next old.hill x) runs.0 = runs.1.submits.1 in (
      facts.disk runs.0.device,
      refl,
      may_move_on (facts.size old.device) (facts.disk old.device) (facts.disk runs.0.device) old.hill (kept_next old.hill x) x is.reads
          (subst (λ n. Images (facts.disk runs.0.device) (λ image. Reads n image old.hill ⊎ Reads n image (kept_next old.hill x))) kept.same_size (cut.reads lawful)) (next_by old.hill x),
      none_behind facts (facts.size old.device) runs.0 new xs rs runs.2,
    )

-- one submission is a list of one
run_of_one : {D : Type 0} (facts : DeviceFacts D) (old new : Seen D) (source : List ℕ) (reply : Reply) → IsSubmitted facts old source reply new → RunsOn facts false old (source ∷ []) (reply ∷ []) new
run_of_one facts old new source (Reply.Placed entry rank score) is = (new, is, refl)
run_of_one facts old new source (Reply.Fell entry score) is = (new, is, refl)
run_of_one facts old new source (Reply.Refused fault) is = (new, is, refl)
run_of_one facts old new source Reply.Memory is = (new, is, refl)
run_of_one facts old new source Reply.Worn is = (new, is, refl)
run_of_one facts old new source Reply.Reopen is = (new, is, refl)
run_of_one facts old new source Reply.Disk is = (new, is, refl)

append_none : (source : List ℕ) (reply : Reply) → events_in (source ∷ []) (reply ∷ []) ≡ events_of source reply
append_none source (Reply.Placed entry rank score) = refl
append_none source (Reply.Fell entry score) = refl
append_none source (Reply.Refused fault) = refl
append_none source Reply.Memory = refl
append_none source Reply.Worn = refl
append_none source Reply.Reopen = refl
append_none source Reply.Disk = refl

pub calls : {D : Type 0} (facts : DeviceFacts D) → CallsAreEvents facts
calls facts = record {
  created = λ old s store lawful is. is.stands lawful;
  opened = λ old store hill lawful is same. (subst (λ k. Reads (facts.size old) (current (facts.disk old)) k) same (is.reads_as lawful), is.synced_now lawful);
  not_opened = λ old new why lawful is. (facts.disk new, is.kept lawful, refl);
  submitted = λ old new source reply lawful standing is.
      subst (λ events. Lives (facts.size old.device) true (facts.disk old.device) events (facts.disk new.device)) (append_none source reply)
      (ran facts old new (source ∷ []) (reply ∷ []) lawful standing (run_of_one facts old new source reply is));
  ran = λ old new sources replied lawful standing is. ran facts old new sources replied lawful standing is;
}
