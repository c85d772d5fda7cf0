-- How a session ends that assembles each source within a number of steps.
use Rattle.std.specs.Prelude.{◌≡◌, ℕ, ◌<◌, ◌≤◌, List, [], ◌∷◌, ◌++◌, length, Option, None, Some}
use Rattle.std.specs.Io.KnownBytes.{Consumes}
use Rattle.{sector_disk.specs.{Facts.DeviceFacts, Served.IsKept}, hill_store.specs.Seen.MayBeSpent}
use Rattle.koth_protocol.specs.Commands.{Command, commands_of}
use Rattle.koth_session.specs.Sessions.{AnswersFirst, EndsSo, IsAnsweredTo, KeepsList, Scene}
use Rattle.koth_session.specs.{Transcript.{Exchange, commands_in}, declared.sessions.SessionEnd.SessionEnd}

-- The assembly of one of the sources in the bytes that were taken may spend the steps that it has. It was not
-- submitted, nothing was written of an answer to it, and the commands before it were answered. Fewer than 4,096 bytes
-- lie after it.
pub record IsSpent {D : Type 0} (facts : DeviceFacts D) (steps : Option ℕ) (taken : List ℕ) (old new : Scene D)
    : Type 0 where
  pub es : List Exchange
  pub answered : IsAnsweredTo facts old new es
  pub source : List ℕ
  pub spends : MayBeSpent steps source
  pub behind : List Command
  pub commands : commands_of taken ≡ commands_in es ++ (Command.Submit source ∷ behind)
  pub upto : List ℕ
  pub rest : List ℕ
  pub split : taken ≡ upto ++ rest
  pub few : length rest < 4096
  pub last_of_them : commands_of upto ≡ commands_in es ++ (Command.Submit source ∷ [])
  pub holds : KeepsList facts old.store new.store es

-- a command ended the session so: with no end of a session without steps if that is a source that may spend them
abbrev pub EndsFirst : {D : Type 0} → DeviceFacts D → Option ℕ → List ℕ → Option SessionEnd → Scene D → Scene D → Type 0
EndsFirst facts steps taken (Some end) old new = AnswersFirst facts taken end old new
EndsFirst facts steps taken None old new = IsSpent facts steps taken old new

-- it ended as a session without steps does, or at a source that may spend them
abbrev pub EndsSoWithin : {D : Type 0} → DeviceFacts D → Option ℕ → Option SessionEnd → List ℕ → Option (List ℕ)
    → Scene D → Scene D → Type 0
EndsSoWithin facts steps (Some end) taken left old new = EndsSo facts end taken left old new
EndsSoWithin facts steps None taken left old new = IsSpent facts steps taken old new

-- Bytes were taken, 16,777,216 at most, the device was handed on, and the session ended so. Without a number of steps
-- that is `EndsSession`, since none are spent then.
abbrev pub EndsWithin : {D : Type 0} → DeviceFacts D → Option ℕ → Option SessionEnd → Option (List ℕ) → Option (List ℕ)
    → Scene D → Scene D → Type 0
EndsWithin facts steps end had left old new =
    (taken : List ℕ) × Consumes had left taken × (length taken ≤ 16777216)
    × IsKept facts old.store.device new.store.device × EndsSoWithin facts steps end taken left old new
