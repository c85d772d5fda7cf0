-- A store as its caller sees it, and what a submission makes of it.
use Rattle.std.specs.Prelude.{◌≡◌, ◌≢◌, ◌⊎◌, ℕ, ◌+◌, ◌-◌, ◌^◌, Bool, true, false, List, Option, None, Some, Ok}
use Rattle.{war_types.specs.{Warrior.WarriorParts, declared.fault.AsmFault.AsmFault, declared.fault.AsmKind.AsmKind}, redcode_asm.specs.{Assembly.assembly, Within.MaySpend}}
use Rattle.{koth_hill.specs.Kept.{Kept, IsKept, step_kept, verdict_kept}, sector_disk.specs.{Facts.DeviceFacts, Image.Images, Served.Failed}, hill_bytes.specs.Layout.HeaderParts, hill_images.specs.Stands.{IsNewest, Reads}}
use Rattle.hill_store.specs.{declared.reply.Reply.Reply, Earned.{kept_reply, kept_next, reply_judged}}

-- the device, the hill with the results that it keeps, how many headers were written before the last, and whether a
-- submission was answered `Disk`
pub record Seen (D : Type 0) : Type 0 where
  pub device : D
  pub hill : Kept
  pub generation : ℕ
  pub reopen : Bool

abbrev pub seen : {D : Type 0} → D → Kept → ℕ → Bool → Seen D
seen device hill generation reopen = record { device = device; hill = hill; generation = generation; reopen = reopen }

-- the newest header of an image has this generation
abbrev pub HasNewest : (ℕ → List ℕ) → ℕ → Type 0
HasNewest image generation = (h : HeaderParts) × IsNewest image h × (generation ≡ h.generation)

-- a store that may take submissions: every image reads as its hill
pub record IsStanding {D : Type 0} (facts : DeviceFacts D) (store : Seen D) : Type 0 where
  pub is_open : store.reopen ≡ false
  pub reads : Images (facts.disk store.device) (λ image. Reads (facts.size store.device) image store.hill)

-- a submission that moved the hill and is durable: one more header was written, and no call of the device failed
pub record IsAnswered {D : Type 0} (facts : DeviceFacts D) (old : Seen D) (next : Kept) (new : Seen D) : Type 0 where
  pub was_open : old.reopen ≡ false
  pub hill : new.hill ≡ next
  pub kept : IsKept new.hill
  pub generation : new.generation ≡ old.generation + 1
  pub faultless : facts.faults new.device ≡ facts.faults old.device
  pub open_still : new.reopen ≡ false
  pub newest : facts.lawful old.device → Images (facts.disk new.device) (λ image. HasNewest image new.generation)
  pub reads : facts.lawful old.device → Images (facts.disk new.device) (λ image. Reads (facts.size new.device) image next)

-- a submission in which the device failed
pub record IsCut {D : Type 0} (facts : DeviceFacts D) (old : Seen D) (next : Kept) (new : Seen D) : Type 0 where
  pub was_open : old.reopen ≡ false
  pub cause : Failed facts old.device new.device
  pub hill : new.hill ≡ old.hill
  pub generation : new.generation ≡ old.generation
  pub broken : new.reopen ≡ true
  pub reads : facts.lawful old.device → Images (facts.disk new.device) (λ image. Reads (facts.size new.device) image old.hill ⊎ Reads (facts.size new.device) image next)

-- nothing was submitted
pub record IsLeft {D : Type 0} (old new : Seen D) : Type 0 where
  pub was_open : old.reopen ≡ false
  pub same : new ≡ old

-- the source gives a warrior
abbrev pub Assembled : {D : Type 0} → Seen D → List ℕ → Type 0
Assembled old source = (w : WarriorParts) × (assembly old.hill.settings source ≡ Ok w)

-- steps are limited, and an assembly of the source may spend those that it has
abbrev pub MayBeSpent : Option ℕ → List ℕ → Type 0
MayBeSpent None source = ⊥
MayBeSpent (Some steps) source = MaySpend steps source

-- what a submission made of a store, by its reply and by the results that its hill keeps; if these are true, `IsAnew`
-- says more
abbrev pub Submits : {D : Type 0} → DeviceFacts D → Seen D → List ℕ → Reply → Seen D → Type 0
Submits facts old source (Reply.Placed entry rank score) new =
    (Reply.Placed entry rank score ≡ kept_reply old.hill source) × IsAnswered facts old (kept_next old.hill source) new
Submits facts old source (Reply.Fell entry score) new =
    (Reply.Fell entry score ≡ kept_reply old.hill source) × IsAnswered facts old (kept_next old.hill source) new
Submits facts old source (Reply.Refused fault) new =
    (Reply.Refused fault ≡ kept_reply old.hill source) × (kept_next old.hill source ≡ old.hill) × IsLeft old new
Submits facts old source Reply.Memory new = IsLeft old new
Submits facts old source Reply.Worn new = (old.generation ≡ 2 ^ 64 - 1) × Assembled old source × IsLeft old new
Submits facts old source Reply.Disk new = Assembled old source × IsCut facts old (kept_next old.hill source) new
Submits facts old source Reply.Reopen new = (old.reopen ≡ true) × (new ≡ old)

-- what it made within a number of steps, if there is one: without a reply nothing, since they may be spent
abbrev pub SubmitsWithin : {D : Type 0} → DeviceFacts D → Option ℕ → Seen D → List ℕ → Option Reply → Seen D → Type 0
SubmitsWithin facts steps old source None new = MayBeSpent steps source × (new ≡ old)
SubmitsWithin facts steps old source (Some reply) new = Submits facts old source reply new

-- what a warrior that was assembled made of a store, by its reply
abbrev pub Challenges : {D : Type 0} → DeviceFacts D → Seen D → WarriorParts → Reply → Seen D → Type 0
Challenges facts old w (Reply.Placed entry rank score) new =
    (Reply.Placed entry rank score ≡ reply_judged (verdict_kept old.hill w)) × IsAnswered facts old (step_kept old.hill w) new
Challenges facts old w (Reply.Fell entry score) new =
    (Reply.Fell entry score ≡ reply_judged (verdict_kept old.hill w)) × IsAnswered facts old (step_kept old.hill w) new
Challenges facts old w (Reply.Refused fault) new = ⊥
Challenges facts old w Reply.Memory new = ⊥
Challenges facts old w Reply.Worn new = (old.generation ≡ 2 ^ 64 - 1) × IsLeft old new
Challenges facts old w Reply.Disk new = IsCut facts old (step_kept old.hill w) new
Challenges facts old w Reply.Reopen new = ⊥

-- a fault of the assembler as a reply: a refusal, but for lack of memory
abbrev pub IsRefusal : AsmFault → Reply → Type 0
IsRefusal fault (Reply.Refused other) = (other ≡ fault) × (fault.kind ≢ AsmKind.Memory)
IsRefusal fault Reply.Memory = fault.kind ≡ AsmKind.Memory
IsRefusal fault (Reply.Placed entry rank score) = ⊥
IsRefusal fault (Reply.Fell entry score) = ⊥
IsRefusal fault Reply.Worn = ⊥
IsRefusal fault Reply.Disk = ⊥
IsRefusal fault Reply.Reopen = ⊥
