-- The store that judges submissions, and the submission to it that is under way.
use Rattle.std.specs.Prelude.{◌≡◌, ⊤, ℕ, ◌==◌, if◌then◌else◌, List, Option, None, Some, Ok}
use Rattle.war_types.specs.declared.settings.RawSettings.{RawSettings}
use Rattle.{redcode_asm.specs.Assembly.assembly, koth_hill.specs.Challenge.IsStep}
use Rattle.hill_store.specs.{Seen.Seen, Submission.{IsSubmitting, SubmissionParts}}

-- the number of a peer, and its submission
abbrev pub Fight : Type 0
Fight = ℕ × SubmissionParts

-- the store, and the submission that is under way
pub record Judged (D : Type 0) : Type 0 where
  pub store : Seen D
  pub under_way : Option Fight

abbrev pub judged : {D : Type 0} → Seen D → Option Fight → Judged D
judged store under_way = record { store = store; under_way = under_way }

-- its challenge is one to the hill of this store
abbrev pub AreSubmitting : {D : Type 0} → Seen D → Option Fight → Type 0
AreSubmitting store None = ⊤
AreSubmitting store (Some (n, submission)) = IsSubmitting store submission

-- whose submission is under way
abbrev pub fighting : Option Fight → Option ℕ
fighting None = None
fighting (Some (n, submission)) = Some n

-- that of this peer is not
abbrev pub without : ℕ → Option Fight → Option Fight
without n None = None
without n (Some (k, submission)) = if n == k then None else Some (k, submission)

-- a submission of this source is under way
abbrev pub IsOfSource : RawSettings → List ℕ → SubmissionParts → Type 0
IsOfSource settings source submission = assembly settings source ≡ Ok submission.warrior

-- a submission was begun, or the one that was under way went on by a step of `turns` turns at most, or of one round
abbrev pub GoesFurther : ℕ → RawSettings → Option Fight → SubmissionParts → Type 0
GoesFurther turns settings None new = ⊤
GoesFurther turns settings (Some (n, old)) new =
    (new.warrior ≡ old.warrior) × IsStep turns settings old.challenge new.challenge
