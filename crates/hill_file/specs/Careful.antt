-- What a careful device has done with its file.
use Rattle.std.specs.Prelude.{◌≡◌, ◌⊎◌, ⊤, ℕ, ◌-◌, ◌^◌, ◌<◌, ◌≤◌, ◌==◌, if◌then◌else◌, Bool, true, false, List, [], ◌∷◌, ◌++◌, Result, IsOk, IsErr, MatchResult}
use Rattle.sector_disk.specs.{Facts.DeviceFacts, File.untold}
use Rattle.hill_file.specs.{declared.careful_device.CarefulDevice.CarefulDevice, declared.sector_file.Headers.Headers, Done.Done}

-- a device when it was opened: the headers that it found, and whether it was in doubt
pub record Opening : Type 0 where
  pub headers : Headers
  pub doubt : Bool

abbrev pub opening : Headers → Bool → Opening
opening headers doubt = record { headers = headers; doubt = doubt }

-- the headers when this content was written to a sector
abbrev pub headers_after : ℕ → List ℕ → Headers → Headers
headers_after n content headers =
    if n == 0 then record { even = content; odd = headers.odd }
    else (if n == 1 then record { even = headers.even; odd = content } else headers)

-- The headers as they are remembered: what was last written to each of them since the device was opened, or what was
-- found then.
abbrev pub remembered : Opening → List Done → Headers
remembered start [] = start.headers
remembered start (Done.Looked headers ∷ log) = remembered start log
remembered start (Done.Read n content ∷ log) = remembered start log
remembered start (Done.Wrote n content ∷ log) = headers_after n content (remembered start log)
remembered start (Done.Tried n content ∷ log) = remembered start log
remembered start (Done.Synced ∷ log) = remembered start log
remembered start (Done.Unsynced ∷ log) = remembered start log
remembered start (Done.Named ∷ log) = remembered start log

-- the last thing that was done is a look that found the headers as they are remembered
abbrev pub FoundSame : Opening → List Done → Type 0
FoundSame start [] = ⊥
FoundSame start (Done.Looked headers ∷ log) = headers ≡ remembered start log
FoundSame start (Done.Read n content ∷ log) = ⊥
FoundSame start (Done.Wrote n content ∷ log) = ⊥
FoundSame start (Done.Tried n content ∷ log) = ⊥
FoundSame start (Done.Synced ∷ log) = ⊥
FoundSame start (Done.Unsynced ∷ log) = ⊥
FoundSame start (Done.Named ∷ log) = ⊥

-- No sector was written, nor was that tried, but right after a look that found the headers as they are remembered.
abbrev pub IsCareful : Opening → List Done → Type 0
IsCareful start [] = ⊤
IsCareful start (Done.Looked headers ∷ log) = IsCareful start log
IsCareful start (Done.Read n content ∷ log) = IsCareful start log
IsCareful start (Done.Wrote n content ∷ log) = FoundSame start log × IsCareful start log
IsCareful start (Done.Tried n content ∷ log) = FoundSame start log × IsCareful start log
IsCareful start (Done.Synced ∷ log) = IsCareful start log
IsCareful start (Done.Unsynced ∷ log) = IsCareful start log
IsCareful start (Done.Named ∷ log) = IsCareful start log

-- this sector was written since the last sync that failed, and since the device was opened
abbrev pub WasWritten : ℕ → List Done → Type 0
WasWritten k [] = ⊥
WasWritten k (Done.Looked headers ∷ log) = WasWritten k log
WasWritten k (Done.Read n content ∷ log) = WasWritten k log
WasWritten k (Done.Wrote n content ∷ log) = (n ≡ k) ⊎ WasWritten k log
WasWritten k (Done.Tried n content ∷ log) = WasWritten k log
WasWritten k (Done.Synced ∷ log) = WasWritten k log
WasWritten k (Done.Unsynced ∷ log) = ⊥
WasWritten k (Done.Named ∷ log) = WasWritten k log

-- each sector was
abbrev pub EachWasWritten : ℕ → List Done → Type 0
EachWasWritten sectors log = (k : ℕ) → k < sectors → WasWritten k log

-- A sync may be believed: none failed since the device was opened without doubt, or since one that came when each
-- sector was written since the last one that failed, and since the device was opened.
abbrev pub IsSure : Opening → ℕ → List Done → Type 0
IsSure start sectors [] = start.doubt ≡ false
IsSure start sectors (Done.Looked headers ∷ log) = IsSure start sectors log
IsSure start sectors (Done.Read n content ∷ log) = IsSure start sectors log
IsSure start sectors (Done.Wrote n content ∷ log) = IsSure start sectors log
IsSure start sectors (Done.Tried n content ∷ log) = IsSure start sectors log
IsSure start sectors (Done.Synced ∷ log) = IsSure start sectors log ⊎ EachWasWritten sectors log
IsSure start sectors (Done.Unsynced ∷ log) = ⊥
IsSure start sectors (Done.Named ∷ log) = IsSure start sectors log

-- The file's name has reached the disk: it was synced since the device was opened, or that was without doubt.
abbrev pub IsNamed : Opening → List Done → Type 0
IsNamed start [] = start.doubt ≡ false
IsNamed start (Done.Looked headers ∷ log) = IsNamed start log
IsNamed start (Done.Read n content ∷ log) = IsNamed start log
IsNamed start (Done.Wrote n content ∷ log) = IsNamed start log
IsNamed start (Done.Tried n content ∷ log) = IsNamed start log
IsNamed start (Done.Synced ∷ log) = IsNamed start log
IsNamed start (Done.Unsynced ∷ log) = IsNamed start log
IsNamed start (Done.Named ∷ log) = ⊤

-- What a device has done since it was opened: this is true of its file, it knows the headers as they are remembered, it
-- was careful, it is in doubt unless its syncs may be believed, and it takes the name for synced only if it is.
pub record HasDone {F : Type 0} (happened : F → List Done → Type 0) (start : Opening) (device : CarefulDevice F)
    (log : List Done) : Type 0 where
  pub history : happened device.file log
  pub known : device.known ≡ remembered start log
  pub careful : IsCareful start log
  pub sure : device.doubt ≡ false → IsSure start device.sectors log
  pub named : device.named ≡ true → IsNamed start log

-- What a call of a device has done: something that is so, whatever was done before.
abbrev pub Goes : {F : Type 0} → (F → List Done → Type 0) → (Opening → List Done → List Done → Type 0)
    → CarefulDevice F → CarefulDevice F → Type 0
Goes happened IsSo old new = (start : Opening) (log : List Done) → HasDone happened start old log
    → (done : List Done) × IsSo start log done × HasDone happened start new (done ++ log)

-- this content was read, or nothing was done
abbrev pub IsRead : {T E : Type 0} → ℕ → List ℕ → Result T E → Opening → List Done → List Done
    → Type 0
IsRead n content result start log done = MatchResult result (λ _. done ≡ Done.Read n content ∷ [])
    (λ _. done ≡ [])

-- nothing was done, or one look that came out in whatever way
abbrev pub IsLookAtMost : List Done → Type 0
IsLookAtMost done = (done ≡ []) ⊎ ((headers : Headers) × (done ≡ Done.Looked headers ∷ []))

-- the headers are as they are remembered, or no more was done than a look
abbrev pub IsLook : {T E : Type 0} → Result T E → Opening → List Done → List Done → Type 0
IsLook result start log done =
    MatchResult result (λ _. done ≡ Done.Looked (remembered start log) ∷ []) (λ _. IsLookAtMost done)

-- this content was written after such a look, or that was tried, or no more was done than a look
abbrev pub IsPut : {T E : Type 0} → ℕ → List ℕ → Result T E → Opening → List Done → List Done → Type 0
IsPut n content result start log done =
    MatchResult result (λ _. done ≡ Done.Wrote n content ∷ Done.Looked (remembered start log) ∷ [])
    (λ _. IsLookAtMost done ⊎ (done ≡ Done.Tried n content ∷ Done.Looked (remembered start log) ∷ []))

-- this content was read from this sector right before the last look
abbrev pub FollowsRead : ℕ → List ℕ → List Done → Type 0
FollowsRead n content (Done.Looked headers ∷ Done.Read k found ∷ done) = (k ≡ n) × (found ≡ content)
FollowsRead n content done = ⊥

-- whatever was written, or tried, was read from its sector right before the look that came before it
abbrev pub IsAsRead : List Done → Type 0
IsAsRead [] = ⊤
IsAsRead (Done.Looked headers ∷ done) = IsAsRead done
IsAsRead (Done.Read n content ∷ done) = IsAsRead done
IsAsRead (Done.Wrote n content ∷ done) = FollowsRead n content done × IsAsRead done
IsAsRead (Done.Tried n content ∷ done) = FollowsRead n content done × IsAsRead done
IsAsRead (Done.Synced ∷ done) = IsAsRead done
IsAsRead (Done.Unsynced ∷ done) = IsAsRead done
IsAsRead (Done.Named ∷ done) = IsAsRead done

-- What was done ends with a sync that may be believed, and a look that found the headers as they are remembered.
abbrev pub EndsSynced : ℕ → Opening → List Done → Type 0
EndsSynced sectors start (Done.Looked headers ∷ Done.Synced ∷ log) =
    (headers ≡ remembered start log) × IsSure start sectors (Done.Synced ∷ log)
EndsSynced sectors start log = ⊥

-- nothing was written, nor was that tried
abbrev pub WritesNone : List Done → Type 0
WritesNone [] = ⊤
WritesNone (Done.Looked headers ∷ done) = WritesNone done
WritesNone (Done.Read n content ∷ done) = WritesNone done
WritesNone (Done.Wrote n content ∷ done) = ⊥
WritesNone (Done.Tried n content ∷ done) = ⊥
WritesNone (Done.Synced ∷ done) = WritesNone done
WritesNone (Done.Unsynced ∷ done) = WritesNone done
WritesNone (Done.Named ∷ done) = WritesNone done

-- the file's name was synced, or nothing was done
abbrev pub IsNaming : Opening → List Done → List Done → Type 0
IsNaming start log done = (done ≡ []) ⊎ (done ≡ Done.Named ∷ [])

-- What a sync has done: it wrote nothing but what it read. If it is answered `Ok`, it ends as it should, and the file's
-- name has reached the disk.
abbrev pub IsSync : {T E : Type 0} → ℕ → Result T E → Opening → List Done → List Done → Type 0
IsSync sectors result start log done =
    IsAsRead done
    × MatchResult result (λ _. EndsSynced sectors start (done ++ log) × IsNamed start (done ++ log)) (λ _. ⊤)

-- what the sync of the file has done, if the device had no doubt or wrote each sector before
abbrev pub Settles : {F T E : Type 0} → (F → List Done → Type 0) → Result T E
    → CarefulDevice F → CarefulDevice F → Type 0
Settles happened result old new = (start : Opening) (log : List Done) → HasDone happened start old log
    → (old.doubt ≡ false) ⊎ EachWasWritten old.sectors log
    → MatchResult result
    (λ _. HasDone happened start new (Done.Synced ∷ log) × IsSure start old.sectors (Done.Synced ∷ log))
    (λ _. HasDone happened start new (Done.Unsynced ∷ log))

-- one fault more is counted at an Err, up to the greatest u64
pub record IsCounted {T E : Type 0} (old new : ℕ) (result : Result T E) : Type 0 where
  pub later : old ≤ new
  pub ok : IsOk result → new ≡ old
  pub err : IsErr result → (old < new) ⊎ (old ≡ 2 ^ 64 - 1)

-- A device over a file of sectors is lawful in no contract.
abbrev pub careful_facts : {F : Type 0} → DeviceFacts (CarefulDevice F)
careful_facts =
    record { size = λ device. device.sectors; lawful = λ _. ⊥; disk = λ _. untold; faults = λ device. device.faults }
