-- The definitions computed on a device of two sectors, with what they have to give. A content is one byte here.
use Rattle.{std.proofs.Common.{◌≡◌, ℕ, List, [], ◌∷◌, ◌⊎◌, refl, Some, Ok, Err}, sector_disk.specs.{Disk.{Disk, current, wrote, synced}, Image.MayHold, Changes.{after, Changes}}}
use Rattle.sector_disk.specs.{Memory.{sector_of, disk_of, set_at, chosen_image, stopped_at}, Fuse.{fate_at, left_after}, declared.fuse.FuseKind.FuseKind, declared.fuse.Fate.Fate}

abbrev byte : ℕ → List ℕ
byte b = b ∷ []

-- sector 0 holds 10 and sector 1 holds 20, for good
abbrev start : Disk
start = disk_of (sector_of (byte 10) [] ∷ sector_of (byte 20) [] ∷ [])

-- 11 and 12 written to sector 0, and 21 to sector 1
abbrev written : Disk
written = after (wrote 0 (byte 11) ∷ wrote 1 (byte 21) ∷ wrote 0 (byte 12) ∷ []) start

-- a read gives the last content written
reads_first : current written 0 ≡ byte 12
reads_first = refl

reads_second : current written 1 ≡ byte 21
reads_second = refl

-- a write appends, and changes nothing that is stable
holds_first : written.written 0 ≡ byte 11 ∷ byte 12 ∷ []
holds_first = refl

holds_second : written.written 1 ≡ byte 21 ∷ []
holds_second = refl

stable_first : written.stable 0 ≡ byte 10
stable_first = refl

-- a sync makes the last contents stable, and forgets the others
synced_first : (synced written).stable 0 ≡ byte 12
synced_first = refl

synced_none : (synced written).written 0 ≡ []
synced_none = refl

-- what a stop may leave in sector 0: 10, 11 or 12; in sector 1: 20 or 21
may_leave_first : (content : List ℕ) → MayHold (written.stable 0) (written.written 0) content ≡ ((content ≡ byte 11) ⊎ ((content ≡ byte 12) ⊎ (content ≡ byte 10)))
may_leave_first content = refl

may_leave_second : (content : List ℕ) → MayHold (written.stable 1) (written.written 1) content ≡ ((content ≡ byte 21) ⊎ (content ≡ byte 20))
may_leave_second content = refl

-- the contents that 0, 1, 2 and 3 name
chosen_stable : chosen_image (0 ∷ []) written 0 ≡ byte 10
chosen_stable = refl

chosen_one : chosen_image (1 ∷ []) written 0 ≡ byte 11
chosen_one = refl

chosen_two : chosen_image (2 ∷ []) written 0 ≡ byte 12
chosen_two = refl

chosen_greater : chosen_image (3 ∷ []) written 0 ≡ byte 12
chosen_greater = refl

-- a missing number is 0, and in a sector to which nothing was written each number names the stable content
chosen_missing : chosen_image (1 ∷ []) written 1 ≡ byte 20
chosen_missing = refl

chosen_settled : chosen_image (5 ∷ []) start 0 ≡ byte 10
chosen_settled = refl

-- a stopped device holds its image for good
stopped_reads : current (stopped_at (1 ∷ 1 ∷ []) written) 0 ≡ byte 11
stopped_reads = refl

stopped_settled : (stopped_at (1 ∷ 1 ∷ []) written).written 0 ≡ []
stopped_settled = refl

-- a content that is set is stable, and what was written to its sector is dropped
set_drops : (set_at 1 (byte 5) (record { sectors = sector_of (byte 1) [] ∷ sector_of (byte 2) (byte 3 ∷ []) ∷ []; faults = 7 })) ≡ record { sectors = sector_of (byte 1) [] ∷ sector_of (byte 5) [] ∷ []; faults = 7 }
set_drops = refl

-- a run of a write and a sync that failed made none of them, the write, or both
failed_run : (new : Disk) → Changes {T = ℕ} {E = ℕ} (wrote 0 (byte 9) ∷ synced ∷ []) start new (Err 0) ≡ ((new ≡ start) ⊎ ((new ≡ wrote 0 (byte 9) start) ⊎ (new ≡ synced (wrote 0 (byte 9) start))))
failed_run new = refl

done_run : (new : Disk) → Changes {T = ℕ} {E = ℕ} (wrote 0 (byte 9) ∷ synced ∷ []) start new (Ok 0) ≡ (new ≡ synced (wrote 0 (byte 9) start))
done_run new = refl

-- with calls left, a call passes and leaves one less
fuse_passes : fate_at FuseKind.Stop (Some 2) ≡ Fate.Passes
fuse_passes = refl

fuse_counts : left_after FuseKind.Stop (Some 2) ≡ Some 1
fuse_counts = refl

-- with none left, `Stop` loses this call and each later one
stop_loses : fate_at FuseKind.Stop (Some 0) ≡ Fate.Lost
stop_loses = refl

stop_stays : left_after FuseKind.Stop (Some 0) ≡ Some 0
stop_stays = refl

-- the others fail once
lost_once : fate_at FuseKind.FailLost (Some 0) ≡ Fate.Lost
lost_once = refl

kept_once : fate_at FuseKind.FailKept (Some 0) ≡ Fate.Kept
kept_once = refl

passes_again : fate_at FuseKind.FailLost (left_after FuseKind.FailLost (Some 0)) ≡ Fate.Passes
passes_again = refl

passes_after_kept : fate_at FuseKind.FailKept (left_after FuseKind.FailKept (Some 0)) ≡ Fate.Passes
passes_after_kept = refl
