-- What is asked of a store without changing it.
use Rattle.std.specs.Prelude.{◌≡◌, ℕ, ◌-◌, ◌^◌, ◌<◌, false, List, Option, None, Some, Result, Ok, Err}
use Rattle.{war_types.specs.Warrior.WarriorParts, redcode_asm.specs.Assembly.assembly, koth_hill.specs.{declared.verdict.Verdict.Verdict, Kept.{Kept, verdict_kept}}}
use Rattle.{sector_disk.specs.{Facts.DeviceFacts, Disk.current, Image.Images}, hill_bytes.specs.Layout.HeaderParts, hill_images.specs.{Opening.HoldsNone, Stands.{IsNewest, Reads}}}
use Rattle.hill_store.specs.{declared.reply.Reply.Reply, Earned.{kept_reply, reply_judged}, Seen.{MayBeSpent, Seen, Submits}}

-- a submission of the source to this store is due this verdict, and the reply that it gives
pub record IsJudged {D : Type 0} (store : Seen D) (source : List ℕ) (judged : Verdict) : Type 0 where
  pub is_open : store.reopen ≡ false
  pub more : store.generation < 2 ^ 64 - 1
  pub warrior : WarriorParts
  pub assembled : assembly store.hill.settings source ≡ Ok warrior
  pub verdict : judged ≡ verdict_kept store.hill warrior
  pub reply : reply_judged judged ≡ kept_reply store.hill source

-- what a source would be answered: this verdict, or this reply, which changes nothing; without either the steps may be
-- spent
abbrev pub IsTried : {D : Type 0} → DeviceFacts D → Option ℕ → Seen D → List ℕ → Option (Result Verdict Reply) → Type 0
IsTried facts steps store source None = MayBeSpent steps source
IsTried facts steps store source (Some (Ok judged)) = IsJudged store source judged
IsTried facts steps store source (Some (Err reply)) = Submits facts store source reply store

-- a hill was written to a device that held none: every image of it reads as that hill, under a header of this
-- generation
pub record IsCopied {N : Type 0} (facts : DeviceFacts N) (hill : Kept) (generation : ℕ) (old new : N) : Type 0 where
  pub was_none : facts.lawful old → HoldsNone (current (facts.disk old))
  pub reads : facts.lawful old → Images (facts.disk new) (λ image. Reads (facts.size new) image hill)
  pub generation_is : facts.lawful old → (h : HeaderParts) × IsNewest (current (facts.disk new)) h × (generation ≡ h.generation)
