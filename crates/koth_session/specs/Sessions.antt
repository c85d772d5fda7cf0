-- How a session goes, and how it ends.
use Rattle.std.specs.Prelude.{◌≡◌, ◌⊎◌, ⊤, ℕ, ◌+◌, ◌-◌, ◌^◌, ◌<◌, ◌≤◌, Bool}
use Rattle.std.specs.Prelude.{true, false, List, [], ◌∷◌, ◌++◌, length, Option, None, Some}
use Rattle.std.specs.Io.KnownBytes.{Appends, Consumes, IsAtEnd, Keeps}
use Rattle.war_types.specs.declared.settings.RawSettings.{RawSettings}
use Rattle.koth_hill.specs.{Hill.{Hill, IsHill}, Kept.{Kept, fought}}
use Rattle.sector_disk.specs.{Facts.DeviceFacts, Image.Images, Served.IsKept}
use Rattle.hill_images.specs.Stands.{Reads}
use Rattle.hill_store.specs.{Earned.{earned, kept_next}, Seen.Seen, declared.reply.Reply.Reply, Holding.Holds}
use Rattle.koth_protocol.specs.{Commands.{Command, commands_of}, Counted.Rose, Written.WritesPart}
use Rattle.koth_session.specs.Transcript.{Exchange, Mark, answer, command_in, commands_in, hill_after, after_anew}
use Rattle.koth_session.specs.Transcript.{submitted, transcript, transcript_anew}
use Rattle.koth_session.specs.declared.sessions.SessionEnd.{SessionEnd}

-- the bytes that the output holds, and the store
pub record Scene (D : Type 0) : Type 0 where
  pub output : Option (List ℕ)
  pub store : Seen D

abbrev pub scene : {D : Type 0} → Option (List ℕ) → Seen D → Scene D
scene output store = record { output = output; store = store }

-- what every image reads as
abbrev pub ReadsNow : {D : Type 0} → DeviceFacts D → Seen D → Type 0
ReadsNow facts s = Images (facts.disk s.device) (λ image. Reads (facts.size s.device) image s.hill)

-- a submission is marked as worn
abbrev pub HasWorn : List Exchange → Type 0
HasWorn [] = ⊥
HasWorn (Exchange.Submission source Mark.Worn ∷ es) = ⊤
HasWorn (Exchange.Submission source Mark.NoMemory ∷ es) = HasWorn es
HasWorn (Exchange.Submission source Mark.Taken ∷ es) = HasWorn es
HasWorn (Exchange.Table ∷ es) = HasWorn es
HasWorn (Exchange.BadLine ∷ es) = HasWorn es

-- an exchange is a submission
abbrev pub HasSubmission : List Exchange → Type 0
HasSubmission [] = ⊥
HasSubmission (Exchange.Submission source mark ∷ es) = ⊤
HasSubmission (Exchange.Table ∷ es) = HasSubmission es
HasSubmission (Exchange.BadLine ∷ es) = HasSubmission es

-- what is kept after these exchanges, of a hill with every pair fought again
pub record IsAfter (hill : Hill) (es : List Exchange) (new : Kept) : Type 0 where
  pub is_hill : IsHill (after_anew hill es)
  pub fought_is : new ≡ fought (after_anew hill es)
  pub transcript_is : transcript (fought hill) es ≡ transcript_anew hill es

-- What exchanges that were answered made of the store. Its generation rose as often as its hill counted a warrior.
pub record AreServed {D : Type 0} (facts : DeviceFacts D) (old new : Seen D) (es : List Exchange) : Type 0 where
  pub hill : new.hill ≡ hill_after old.hill es
  pub generation : new.generation + old.hill.counter ≡ old.generation + new.hill.counter
  pub still : new.reopen ≡ old.reopen
  pub open_at : HasSubmission es → old.reopen ≡ false
  pub kept : IsKept facts old.device new.device
  pub worn : HasWorn es → new.generation ≡ 2 ^ 64 - 1
  pub full : old.generation ≡ 2 ^ 64 - 1 → new.generation ≡ 2 ^ 64 - 1
  pub reads : facts.lawful old.device → old.reopen ≡ false → ReadsNow facts old → ReadsNow facts new
  -- if the results that the hill keeps are true, they are those of every pair fought again, and true again after these
  -- exchanges
  pub anew : (hill : Hill) → IsHill hill → old.hill ≡ fought hill → IsAfter hill es new.hill

-- this source was submitted, and the device failed then or before
pub record IsLeftOff {D : Type 0} (facts : DeviceFacts D) (old new : Seen D) (source : List ℕ) : Type 0 where
  pub hill : new.hill ≡ old.hill
  pub generation : new.generation ≡ old.generation
  pub broken : new.reopen ≡ true
  pub kept : IsKept facts old.device new.device
  pub cause : (old.reopen ≡ true) ⊎ Rose (facts.faults old.device) (facts.faults new.device)
  pub full : old.generation ≡ 2 ^ 64 - 1 → new.generation ≡ 2 ^ 64 - 1
  pub reads : facts.lawful old.device → old.reopen ≡ false
      → Images (facts.disk new.device) (λ image. Reads (facts.size new.device) image old.hill
      ⊎ Reads (facts.size new.device) image (kept_next old.hill source))

-- what a command brought about: it was answered, or the session ends
abbrev pub AnswersCommand : {D : Type 0} → DeviceFacts D → Command → Option SessionEnd → Scene D → Scene D
    → Type 0
AnswersCommand facts command None old new =
    (e : Exchange) × (command ≡ command_in e) × AreServed facts old.store new.store (e ∷ [])
    × Appends old.output new.output (answer old.store.hill e)
AnswersCommand facts command (Some SessionEnd.WriteFault) old new =
    (e : Exchange) × (command ≡ command_in e) × AreServed facts old.store new.store (e ∷ [])
    × WritesPart old.output new.output (answer old.store.hill e)
AnswersCommand facts command (Some SessionEnd.StoreFailed) old new =
    (source : List ℕ) × (command ≡ Command.Submit source) × IsLeftOff facts old.store new.store source
    × Keeps old.output new.output
AnswersCommand facts command (Some SessionEnd.Memory) old new =
    (command ≡ Command.Show) × (new.store ≡ old.store) × Keeps old.output new.output
AnswersCommand facts command (Some SessionEnd.Quit) old new =
    (command ≡ Command.Quit) × (new.store ≡ old.store) × Keeps old.output new.output
AnswersCommand facts command (Some SessionEnd.EndOfInput) old new = ⊥
AnswersCommand facts command (Some SessionEnd.ReadFault) old new = ⊥
AnswersCommand facts command (Some SessionEnd.Limit) old new = ⊥

-- these exchanges were answered whole
pub record IsAnsweredTo {D : Type 0} (facts : DeviceFacts D) (old new : Scene D) (es : List Exchange) : Type 0 where
  pub served : AreServed facts old.store new.store es
  pub written : Appends old.output new.output (transcript old.store.hill es)

-- the device failed, in this submission or before
abbrev pub has_failed : Reply → Bool
has_failed Reply.Disk = true
has_failed Reply.Reopen = true
has_failed Reply.Worn = false
has_failed Reply.Memory = false
has_failed (Reply.Refused fault) = false
has_failed (Reply.Fell entry score) = false
has_failed (Reply.Placed entry rank score) = false

-- If every image stood for the hill that these sources earn, every image stands for what they and the submissions
-- answered earn.
abbrev pub KeepsList : {D : Type 0} → DeviceFacts D → Seen D → Seen D → List Exchange → Type 0
KeepsList facts old new es =
    (s : RawSettings) (sources : List (List ℕ)) → facts.lawful old.device → old.reopen ≡ false
    → old.hill ≡ fought (earned s sources)
    → Holds (facts.size old.device) (facts.disk old.device) s sources None
    → (new.hill ≡ fought (earned s (sources ++ submitted es)))
    × Holds (facts.size new.device) (facts.disk new.device) s (sources ++ submitted es) None

-- The same with one more source, which was being submitted: each image has it or does not.
abbrev pub KeepsCut : {D : Type 0} → DeviceFacts D → Seen D → Seen D → List Exchange → List ℕ → Type 0
KeepsCut facts old new es source =
    (s : RawSettings) (sources : List (List ℕ)) → facts.lawful old.device → old.reopen ≡ false
    → old.hill ≡ fought (earned s sources)
    → Holds (facts.size old.device) (facts.disk old.device) s sources None
    → Holds (facts.size new.device) (facts.disk new.device) s (sources ++ submitted es) (Some source)

-- what the device holds after a command that ended the session
abbrev pub HoldsAt : {D : Type 0} → DeviceFacts D → SessionEnd → Command → Seen D → Seen D → List Exchange
    → Type 0
HoldsAt facts SessionEnd.Quit command old new es = KeepsList facts old new es
HoldsAt facts SessionEnd.Memory command old new es = KeepsList facts old new es
HoldsAt facts SessionEnd.WriteFault command old new es =
    (e : Exchange) × (command ≡ command_in e) × KeepsList facts old new (es ++ e ∷ [])
HoldsAt facts SessionEnd.StoreFailed command old new es =
    (source : List ℕ) × (command ≡ Command.Submit source) × KeepsCut facts old new es source
HoldsAt facts SessionEnd.EndOfInput command old new es = ⊥
HoldsAt facts SessionEnd.ReadFault command old new es = ⊥
HoldsAt facts SessionEnd.Limit command old new es = ⊥

-- All commands of the bytes that were taken were answered, and none of them is `QUIT`.
pub record AnswersAll {D : Type 0} (facts : DeviceFacts D) (taken : List ℕ) (old new : Scene D) : Type 0 where
  pub es : List Exchange
  pub commands : commands_of taken ≡ commands_in es
  pub answered : IsAnsweredTo facts old new es
  pub holds : KeepsList facts old.store new.store es

-- One of the commands of the bytes that were taken ended the session so, and those before it were answered. Fewer than
-- 4,096 bytes lie after that command.
pub record AnswersFirst {D : Type 0} (facts : DeviceFacts D) (taken : List ℕ) (end : SessionEnd)
    (old new : Scene D) : Type 0 where
  pub es : List Exchange
  pub last : Scene D
  pub answered : IsAnsweredTo facts old last es
  pub command : Command
  pub behind : List Command
  pub commands : commands_of taken ≡ commands_in es ++ (command ∷ behind)
  pub upto : List ℕ
  pub rest : List ℕ
  pub split : taken ≡ upto ++ rest
  pub few : length rest < 4096
  pub last_of_them : commands_of upto ≡ commands_in es ++ (command ∷ [])
  pub ended : AnswersCommand facts command (Some end) last new
  pub holds : HoldsAt facts end command old.store new.store es

abbrev pub EndsSo : {D : Type 0} → DeviceFacts D → SessionEnd → List ℕ → Option (List ℕ) → Scene D
    → Scene D → Type 0
EndsSo facts SessionEnd.Quit taken left old new = AnswersFirst facts taken SessionEnd.Quit old new
EndsSo facts SessionEnd.EndOfInput taken left old new = IsAtEnd left × AnswersAll facts taken old new
EndsSo facts SessionEnd.ReadFault taken left old new = AnswersAll facts taken old new
EndsSo facts SessionEnd.WriteFault taken left old new = AnswersFirst facts taken SessionEnd.WriteFault old new
EndsSo facts SessionEnd.Limit taken left old new = (length taken ≡ 16777216) × AnswersAll facts taken old new
EndsSo facts SessionEnd.StoreFailed taken left old new = AnswersFirst facts taken SessionEnd.StoreFailed old new
EndsSo facts SessionEnd.Memory taken left old new =
    ((taken ≡ []) × (new.store ≡ old.store) × Keeps old.output new.output)
    ⊎ AnswersFirst facts taken SessionEnd.Memory old new

-- Bytes were taken, 16,777,216 at most, the device was handed on, and the session ended so.
abbrev pub EndsSession : {D : Type 0} → DeviceFacts D → SessionEnd → Option (List ℕ) → Option (List ℕ)
    → Scene D → Scene D → Type 0
EndsSession facts end had left old new =
    (taken : List ℕ) × Consumes had left taken × (length taken ≤ 16777216)
    × IsKept facts old.store.device new.store.device × EndsSo facts end taken left old new
