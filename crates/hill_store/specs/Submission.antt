-- A submission that is begun, and fought in steps.
use Rattle.std.specs.Prelude.{◌≡◌, ℕ, ◌-◌, ◌^◌, ◌<◌, false, List, Option, None, Some, Result, Ok, Err}
use Rattle.{war_types.specs.Warrior.{WarriorParts, Fits}, redcode_asm.specs.Assembly.assembly, koth_hill.specs.{declared.challenge.Challenge.Challenge, Challenge.IsUnderWay}}
use Rattle.{sector_disk.specs.Facts.DeviceFacts, hill_store.specs.{declared.reply.Reply.Reply, Seen.{MayBeSpent, Seen, Submits}}}

-- the warrior of a source, and its challenge
pub record SubmissionParts : Type 0 where
  pub warrior : WarriorParts
  pub challenge : Challenge

abbrev pub submission_of : WarriorParts → Challenge → SubmissionParts
submission_of w challenge = record { warrior = w; challenge = challenge }

-- this store may make the outcome of a challenge of this warrior durable
pub record MayChallenge {D : Type 0} (store : Seen D) (w : WarriorParts) : Type 0 where
  pub is_open : store.reopen ≡ false
  pub more : store.generation < 2 ^ 64 - 1
  pub fits : Fits store.hill.settings w

-- a submission to this store that is under way: its challenge is one to the hill of this store
pub record IsSubmitting {D : Type 0} (store : Seen D) (submission : SubmissionParts) : Type 0 where
  pub may : MayChallenge store submission.warrior
  pub challenge : IsUnderWay store.hill submission.warrior submission.challenge

-- what a source was answered, which changes nothing, or the submission of its warrior; without either the steps may be
-- spent
abbrev pub IsBegun : {D : Type 0} → DeviceFacts D → Option ℕ → Seen D → List ℕ → Option (Result SubmissionParts Reply) → Type 0
IsBegun facts steps store source None = MayBeSpent steps source
IsBegun facts steps store source (Some (Ok submission)) = (assembly store.hill.settings source ≡ Ok submission.warrior) × IsSubmitting store submission
IsBegun facts steps store source (Some (Err reply)) = Submits facts store source reply store
