-- What was read into memory, sector by sector, each at a moment of its own.
use Rattle.std.proofs.{Common.{◌≡◌, ◌≢◌, inl, inr, ℕ, zero, suc, ◌+◌, ◌<◌, ◌≤◌, List, [], sym, ap, subst, ◌∙◌, arith}, lemmas.Bool.cases_eq, lemmas.List.{get_or-set_same, get_or-set_other, length-set}}
use Rattle.{sector_disk.specs.{Disk.last_of, Memory.{MemoryState, SectorState, memory_size, nothing, sector_of, set_at}}, hill_file.specs.declared.sector_file.Headers.Headers}
use Rattle.hill_look.specs.{Looked.{HeadersStood, SlotsStood, WasTaken, taken}, Meanwhile.{IsFree, MovesOn, StoodAt}}
use Rattle.hill_look.proofs.{Moves.{moves_more, stays, stood_within}, Steady.{SameHeaders, slot_stands, steady}}

-- ---- the device in memory

taken_same : (n : ℕ) (content : List ℕ) (memory : MemoryState) → n < memory_size memory → taken (set_at n content memory) n ≡ content
taken_same n content memory below = ap (λ (s : SectorState). last_of s.stable s.written) (get_or-set_same memory.sectors n (sector_of content []) nothing below)

taken_other : (n k : ℕ) (content : List ℕ) (memory : MemoryState) → k ≢ n → taken (set_at n content memory) k ≡ taken memory k
taken_other n k content memory other = ap (λ (s : SectorState). last_of s.stable s.written) (get_or-set_other memory.sectors n k (sector_of content []) nothing other)

pub size_set : (n : ℕ) (content : List ℕ) (memory : MemoryState) → memory_size (set_at n content memory) ≡ memory_size memory
size_set n content memory = length-set memory.sectors n (sector_of content [])

-- one more sector of a slot was read
pub slots_more : (old mid new : ℕ → List ℕ) (k : ℕ) (content : List ℕ) (memory : MemoryState) → k < memory_size memory → MovesOn mid new → StoodAt old new k content
    → ((n : ℕ) → 2 ≤ n → n < k → StoodAt old mid n (taken memory n)) → (n : ℕ) → 2 ≤ n → n < k + 1 → StoodAt old new n (taken (set_at k content memory) n)
slots_more old mid new k content memory below moved stood before n past within = elim (cases_eq n k) [
  | inl this ↦ subst (λ m. StoodAt old new m (taken (set_at k content memory) m)) (sym this) (subst (StoodAt old new k) (sym (taken_same k content memory below)) stood)
  | inr other ↦ subst (StoodAt old new n) (sym (taken_other k n content memory other))
      (stood_within old old mid new n (taken memory n) (stays old) moved (before n past (omega (arith, within, other))))
]

-- ---- what stood

pub headers_within : (first old new last : ℕ → List ℕ) (headers : Headers) → MovesOn first old → MovesOn new last → HeadersStood old new headers → HeadersStood first last headers
headers_within first old new last headers front back stood = record {
  even = stood_within first old new last 0 headers.even front back stood.even;
  odd = stood_within first old new last 1 headers.odd front back stood.odd;
}

-- what is found in a header's sector before and after stood there at each moment between
header_stands : (n : ℕ) (start old mid new image : ℕ → List ℕ) (content : List ℕ) → n < 2 → StoodAt start old n content → StoodAt mid new n content → MovesOn old image → MovesOn image mid → image n ≡ content
header_stands n start old mid new image content low before behind front back =
    steady n before.moment image behind.moment low (moves_more before.moment old image before.behind front) (moves_more image mid behind.moment back behind.before) (behind.here ∙ sym before.here)
    ∙ before.here

headers_same : (start old mid new image : ℕ → List ℕ) (headers : Headers) → HeadersStood start old headers → HeadersStood mid new headers → MovesOn old mid → MovesOn old image → MovesOn image mid → SameHeaders old image
headers_same start old mid new image headers before behind whole front back zero low =
    header_stands 0 start old mid new image headers.even low before.even behind.even front back ∙ sym (header_stands 0 start old mid new old headers.even low before.even behind.even (stays old) whole)
headers_same start old mid new image headers before behind whole front back (suc zero) low =
    header_stands 1 start old mid new image headers.odd low before.odd behind.odd front back ∙ sym (header_stands 1 start old mid new old headers.odd low before.odd behind.odd (stays old) whole)
headers_same start old mid new image headers before behind whole front back (suc (suc n)) low = absurd (omega (arith, low))

module _ (start old mid new : ℕ → List ℕ) (headers : Headers) (read : MemoryState) (two : 2 ≤ memory_size read) (whole : MovesOn old mid)
    (before : HeadersStood start old headers) (slots : SlotsStood old mid read) (behind : HeadersStood mid new headers) where
  abbrev done : MemoryState
  done = set_at 1 headers.odd (set_at 0 headers.even read)

  same_at : (n : ℕ) → n < memory_size done → (IsFree old n → ⊥) → taken done n ≡ old n
  same_at zero below apart =
      taken_other 1 0 headers.odd (set_at 0 headers.even read) (omega arith) ∙ taken_same 0 headers.even read (omega (arith, two))
      ∙ sym (header_stands 0 start old mid new old headers.even (omega arith) before.even behind.even (stays old) whole)
  same_at (suc zero) below apart =
      taken_same 1 headers.odd (set_at 0 headers.even read) (omega (arith, two, size_set 0 headers.even read))
      ∙ sym (header_stands 1 start old mid new old headers.odd (omega arith) before.odd behind.odd (stays old) whole)
  same_at (suc (suc n)) below apart =
      let stood = slots (suc (suc n)) (omega arith) (omega (arith, below, size_set 0 headers.even read, size_set 1 headers.odd (set_at 0 headers.even read))) in
      taken_other 1 (suc (suc n)) headers.odd (set_at 0 headers.even read) (omega arith) ∙ taken_other 0 (suc (suc n)) headers.even read (omega arith)
      ∙ sym stood.here
      ∙ slot_stands (suc (suc n)) old stood.moment stood.before (headers_same start old mid new stood.moment headers before behind whole stood.before stood.behind) apart

  pub was_taken : WasTaken start new done
  was_taken = record {
    moment = old;
    before = moves_more start before.even.moment old before.even.before before.even.behind;
    behind = moves_more old mid new whole (moves_more mid behind.even.moment new behind.even.before behind.even.behind);
    same = same_at;
  }

-- ---- headers that changed

stood_still : (n : ℕ) (start new : ℕ → List ℕ) (content : List ℕ) → n < 2 → StoodAt start new n content → new ≡ start → content ≡ start n
stood_still n start new content low stood same = sym stood.here ∙ steady n start stood.moment new low stood.before stood.behind (ap (λ (image : ℕ → List ℕ). image n) same)

-- of headers that were read twice, and differ, one was written
pub changed : (start old new : ℕ → List ℕ) (before behind : Headers) → HeadersStood start old before → HeadersStood start new behind → MovesOn old new → (behind ≡ before → ⊥) → new ≡ start → ⊥
changed start old new before behind stood again moved differ same = differ (λ i. record {
  even = (stood_still 0 start new behind.even (omega arith) again.even same ∙ sym (stood_still 0 start new before.even (omega arith) (stood_within start start old new 0 before.even (stays start) moved stood.even) same)) i;
  odd = (stood_still 1 start new behind.odd (omega arith) again.odd same ∙ sym (stood_still 1 start new before.odd (omega arith) (stood_within start start old new 1 before.odd (stays start) moved stood.odd) same)) i;
})
