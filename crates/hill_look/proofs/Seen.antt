-- What opening finds in what was read is what stood: for `look_at_hill`.
use Rattle.std.proofs.Common.{◌≡◌, ℕ, ◌<◌, ◌≤◌, false, min, List, Result, Ok, Err, IfErr, IfOk, MatchResult, inl, sym, ap, subst, ◌∙◌}
use Rattle.sector_disk.specs.{Facts.DeviceFacts, Image.Images, Memory.{MemoryState, memory_disk, memory_facts, memory_size}}
use Rattle.{hill_images.specs.{declared.refusal.Refusal.Refusal, Stands.Reads}, hill_store.specs.{Opened.IsOpened, Seen.Seen}}
use Rattle.hill_look.specs.{declared.refusal.LookRefusal.LookRefusal, Looked.{HillStood, IsNotSeen, IsNotSeenIn, IsNotTaken, IsRefusedIn, RefusalStood, Refuses, WasTaken, of_memory, shown, taken}, Meanwhile.{IsFree, MovesOn}}
use Rattle.hill_look.proofs.{Moves.stays, Same.{newest_moment, reads_moment, refuses_moment}, Steady.{SameHeaders, free_same, slot_stands, steady}}

-- what was taken of sectors that are as they were
still_taken : (old new : ℕ → List ℕ) (memory : MemoryState) (was : WasTaken old new memory) → new ≡ old → (n : ℕ) → n < memory_size memory → (IsFree old n → ⊥) → taken memory n ≡ old n
still_taken old new memory was same n below apart =
    was.same n below (λ free. apart (free_same old was.moment n headers free)) ∙ slot_stands n old was.moment was.before headers apart
  where
    headers : SameHeaders old was.moment
    headers k low = steady k old was.moment new low was.before was.behind (ap (λ (image : ℕ → List ℕ). image k) same)

module _ (size : ℕ) (old new : ℕ → List ℕ) (memory : MemoryState) (size_is : memory_size memory ≡ min size 86) (two : 2 ≤ memory_size memory) (was : WasTaken old new memory) where
  pub hill_stood : (store : Seen MemoryState) → IsOpened memory_facts memory store → HillStood size old new store.hill store.generation
  hill_stood store opened =
      let found = opened.generation tt in record {
        moment = was.moment;
        before = was.before;
        behind = was.behind;
        reads = reads_moment size memory was.moment size_is two was.same store.hill (opened.reads_as tt);
        header = found.0;
        newest = newest_moment size memory was.moment size_is two was.same found.0 found.1;
        generation_is = found.2;
      }

  pub hill_still : (store : Seen MemoryState) → IsOpened memory_facts memory store → new ≡ old → Reads size old store.hill
  hill_still store opened same = reads_moment size memory old size_is two (still_taken old new memory was same) store.hill (opened.reads_as tt)

  refused_so : (moment : ℕ → List ℕ) → ((n : ℕ) → n < memory_size memory → (IsFree moment n → ⊥) → taken memory n ≡ moment n) → (why : Refusal) → Refuses (memory_size memory) (taken memory) why → Refuses size moment (of_memory why)
  refused_so moment same Refusal.TooSmall is = refuses_moment size memory moment size_is two same Refusal.TooSmall is
  refused_so moment same Refusal.NotAHill is = refuses_moment size memory moment size_is two same Refusal.NotAHill is
  refused_so moment same Refusal.Damaged is = refuses_moment size memory moment size_is two same Refusal.Damaged is
  refused_so moment same Refusal.Disk is = tt
  refused_so moment same Refusal.Memory is = tt
  refused_so moment same Refusal.Occupied never = never

  pub refused_still : (why : Refusal) → Refuses (memory_size memory) (taken memory) why → new ≡ old → Refuses size old (of_memory why)
  refused_still why is same = refused_so old (still_taken old new memory was same) why is

-- what was read was opened or refused
module _ {S : Type 0} (facts : DeviceFacts S) (old new : S) (memory : MemoryState) (size_is : memory_size memory ≡ min (facts.size old) 86) (two : 2 ≤ memory_size memory)
    (was : facts.lawful old → WasTaken (shown facts old) (shown facts new) memory) where
  stood_of : (why : Refusal) → Refuses (memory_size memory) (taken memory) why → facts.lawful old → RefusalStood (facts.size old) (shown facts old) (shown facts new) (of_memory why)
  stood_of why is lawful =
      let found = was lawful in record {
        moment = found.moment;
        before = found.before;
        behind = found.behind;
        reason = refused_so (facts.size old) (shown facts old) (shown facts new) memory size_is two found found.moment found.same why is;
      }

  not_opened : (why : Refusal) → Refuses (memory_size memory) (taken memory) why → IsNotSeen facts old new (LookRefusal.Refused (of_memory why))
  not_opened Refusal.TooSmall is = stood_of Refusal.TooSmall is
  not_opened Refusal.NotAHill is = stood_of Refusal.NotAHill is
  not_opened Refusal.Damaged is = stood_of Refusal.Damaged is
  not_opened Refusal.Disk is = tt
  not_opened Refusal.Memory is = tt
  not_opened Refusal.Occupied never = never

  pub seen_stood : (result : Result (Seen MemoryState) LookRefusal) → IfOk result (IsOpened memory_facts memory) → facts.lawful old → IfOk result (λ store. HillStood (facts.size old) (shown facts old) (shown facts new) store.hill store.generation)
  seen_stood (Ok store) opened lawful = hill_stood (facts.size old) (shown facts old) (shown facts new) memory size_is two (was lawful) store opened
  seen_stood (Err why) any lawful = any

  pub seen_still : (result : Result (Seen MemoryState) LookRefusal) → IfOk result (IsOpened memory_facts memory) → IfErr result (IsRefusedIn memory) → facts.lawful old → shown facts new ≡ shown facts old
      → MatchResult result (λ store. Reads (facts.size old) (shown facts old) store.hill) (IsNotSeenIn (facts.size old) (shown facts old))
  seen_still (Ok store) opened any lawful same = hill_still (facts.size old) (shown facts old) (shown facts new) memory size_is two (was lawful) store opened same
  seen_still (Err (LookRefusal.Refused why)) any (found, is, so) lawful same =
      subst (Refuses (facts.size old) (shown facts old)) (sym so) (refused_still (facts.size old) (shown facts old) (shown facts new) memory size_is two (was lawful) found is same)
  seen_still (Err LookRefusal.Changing) any never lawful same = never

  pub seen_refused : (result : Result (Seen MemoryState) LookRefusal) → IfErr result (IsRefusedIn memory) → IfErr result (IsNotSeen facts old new)
  seen_refused (Ok store) any = any
  seen_refused (Err (LookRefusal.Refused why)) (found, is, so) = subst (λ x. IsNotSeen facts old new (LookRefusal.Refused x)) (sym so) (not_opened found is)
  seen_refused (Err LookRefusal.Changing) never = absurd never

pub seen_open : (memory : MemoryState) (result : Result (Seen MemoryState) LookRefusal) → IfOk result (IsOpened memory_facts memory) → IfOk result (λ store. store.reopen ≡ false)
seen_open memory (Ok store) opened = opened.open_now
seen_open memory (Err why) any = any

pub seen_reads : (memory : MemoryState) (result : Result (Seen MemoryState) LookRefusal) → IfOk result (IsOpened memory_facts memory) → IfOk result (λ store. Images (memory_disk store.device) (λ image. Reads (memory_size store.device) image store.hill))
seen_reads memory (Ok store) opened = opened.reads tt
seen_reads memory (Err why) any = any

-- nothing was read
pub not_taken : {S : Type 0} (facts : DeviceFacts S) (old new : S) → (facts.size old < 2 → new ≡ old) → (why : LookRefusal) → IsNotTaken facts old new why → IsNotSeen facts old new why
not_taken facts old new unread (LookRefusal.Refused Refusal.TooSmall) few = λ lawful. record {
  moment = shown facts old;
  before = stays (shown facts old);
  behind = subst (λ source. MovesOn (shown facts old) (shown facts source)) (sym (unread few)) (stays (shown facts old));
  reason = inl few;
}
not_taken facts old new unread (LookRefusal.Refused Refusal.Disk) failed = failed
not_taken facts old new unread (LookRefusal.Refused Refusal.Memory) any = tt
not_taken facts old new unread (LookRefusal.Refused Refusal.Occupied) never = never
not_taken facts old new unread (LookRefusal.Refused Refusal.NotAHill) never = absurd never
not_taken facts old new unread (LookRefusal.Refused Refusal.Damaged) never = absurd never
not_taken facts old new unread LookRefusal.Changing changed = changed

pub not_taken_in : {S : Type 0} (facts : DeviceFacts S) (old new : S) → facts.lawful old → shown facts new ≡ shown facts old → (why : LookRefusal) → IsNotTaken facts old new why → IsNotSeenIn (facts.size old) (shown facts old) why
not_taken_in facts old new lawful same (LookRefusal.Refused Refusal.TooSmall) few = inl few
not_taken_in facts old new lawful same (LookRefusal.Refused Refusal.Disk) failed = tt
not_taken_in facts old new lawful same (LookRefusal.Refused Refusal.Memory) any = tt
not_taken_in facts old new lawful same (LookRefusal.Refused Refusal.Occupied) never = never
not_taken_in facts old new lawful same (LookRefusal.Refused Refusal.NotAHill) never = absurd never
not_taken_in facts old new lawful same (LookRefusal.Refused Refusal.Damaged) never = absurd never
not_taken_in facts old new lawful same LookRefusal.Changing changed = changed lawful same
