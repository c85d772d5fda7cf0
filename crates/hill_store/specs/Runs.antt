-- Submissions one after another.
use Rattle.std.specs.{Prelude.{◌≡◌, ℕ, Bool, true, false, List, [], ◌∷◌, map}, Borrow.Bor}
use Rattle.{sector_disk.specs.{Facts.DeviceFacts, Served.IsKept}, hill_store.specs.{declared.reply.Reply.Reply, Seen.{Seen, Submits}}}

abbrev pub is_disk : Reply → Bool
is_disk Reply.Disk = true
is_disk Reply.Reopen = false
is_disk Reply.Worn = false
is_disk Reply.Memory = false
is_disk (Reply.Refused fault) = false
is_disk (Reply.Fell entry score) = false
is_disk (Reply.Placed entry rank score) = false

-- a list of sources, by their bytes
abbrev pub texts : List (Bor (List ℕ)) → List (List ℕ)
texts sources = map (λ source. source.now) sources

-- a submission, and what holds of each run of calls of a device
pub record IsSubmitted {D : Type 0} (facts : DeviceFacts D) (old : Seen D) (source : List ℕ) (reply : Reply) (new : Seen D) : Type 0 where
  pub kept : IsKept facts old.device new.device
  pub submits : Submits facts old source reply new

-- The replies are those of these sources, each submitted to the store that the one before it left, up to and with the
-- first `Disk`. No source is left out but those after a `Disk`: `stopped` says that one came just before.
abbrev pub RunsOn : {D : Type 0} → DeviceFacts D → Bool → Seen D → List (List ℕ) → List Reply → Seen D → Type 0
RunsOn facts true old sources [] new = new ≡ old
RunsOn facts true old sources (reply ∷ rest) new = ⊥
RunsOn facts false old [] [] new = new ≡ old
RunsOn facts false old [] (reply ∷ rest) new = ⊥
RunsOn facts false old (source ∷ sources) [] new = ⊥
RunsOn {D} facts false old (source ∷ sources) (reply ∷ rest) new =
    (mid : Seen D) × IsSubmitted facts old source reply mid × RunsOn facts (is_disk reply) mid sources rest new

abbrev pub Runs : {D : Type 0} → DeviceFacts D → Seen D → List (List ℕ) → List Reply → Seen D → Type 0
Runs facts old sources replied new = RunsOn facts false old sources replied new
