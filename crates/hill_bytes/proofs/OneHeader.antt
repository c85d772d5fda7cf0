-- Bytes are one header's at most.
use Rattle.std.proofs.Common.{◌≡◌, ℕ, zero, suc, ◌^◌, ◌%◌, ◌<◌, ◌≤◌, List, [], ◌∷◌, ◌++◌, length, get_or, drop, replicate, All, arith, refl, sym, ap, ap₂, ◌∙◌}
use Rattle.{std.proofs.lemmas.List.Elements.{All-head, All-tail}, std.specs.Int.bytes_high_first, war_types.specs.{declared.settings.RawSettings.RawSettings, Settings.{AreSettings, limit_of}}}
use Rattle.hill_bytes.specs.{declared.header.HeaderEntry.HeaderEntry, Layout.{Layout, HeaderParts, IsHeader, IsHeaderParts, settings_bytes, limit_bytes, stored_limit, entry_bytes, entry_places}}
use Rattle.hill_bytes.proofs.{Writes.{stored-most, limits-most, limit-back}, HeaderBytes.{header_fields, number-at, generation-at, settings-at, counter-at, count-at, entries-at, entries-fit}}

-- two numbers that stand at one place are one
pub same-at : (k m n : ℕ) (bytes r s : List ℕ) → m < 256 ^ k → n < 256 ^ k → bytes ≡ bytes_high_first k m ++ r → bytes ≡ bytes_high_first k n ++ s → m ≡ n
same-at k m n bytes r s below_m below_n is_m is_n = sym (number-at k m bytes r below_m is_m) ∙ number-at k n bytes s below_n is_n

-- a limit is known by the core and by what is stored of it
limit-same : (m n k l : ℕ) → 1 ≤ k → m % k ≡ 0 → 1 ≤ l → n % l ≡ 0 → m ≡ n → stored_limit m k ≡ stored_limit n l → k ≡ l
limit-same m n k l least_k divides_k least_l divides_l cores stored =
    sym (limit-back m k least_k divides_k).1 ∙ ap₂ limit_of cores stored ∙ (limit-back n l least_l divides_l).1

settings-same : (s t : RawSettings) (bytes r q : List ℕ) → AreSettings s → AreSettings t → bytes ≡ settings_bytes s ++ limit_bytes s ++ r → bytes ≡ settings_bytes t ++ limit_bytes t ++ q → s ≡ t
settings-same s t bytes r q are_s are_t is_s is_t =
    let x : List ℕ = settings_bytes s ++ limit_bytes s ++ r in
    let y : List ℕ = settings_bytes t ++ limit_bytes t ++ q in
    let core : s.core ≡ t.core = same-at 2 s.core t.core bytes (drop 2 x) (drop 2 y) (omega (arith, are_s.core_most)) (omega (arith, are_t.core_most)) is_s is_t in
    let cycles : s.cycles ≡ t.cycles = same-at 4 s.cycles t.cycles (drop 2 bytes) (drop 6 x) (drop 6 y) (omega (arith, are_s.cycles_most)) (omega (arith, are_t.cycles_most)) (ap (drop 2) is_s) (ap (drop 2) is_t) in
    let processes : s.processes ≡ t.processes = same-at 2 s.processes t.processes (drop 6 bytes) (drop 8 x) (drop 8 y) (omega (arith, are_s.processes_most)) (omega (arith, are_t.processes_most)) (ap (drop 6) is_s) (ap (drop 6) is_t) in
    let length : s.length ≡ t.length = same-at 2 s.length t.length (drop 8 bytes) (drop 10 x) (drop 10 y) (omega (arith, are_s.length_most)) (omega (arith, are_t.length_most)) (ap (drop 8) is_s) (ap (drop 8) is_t) in
    let distance : s.distance ≡ t.distance = same-at 2 s.distance t.distance (drop 10 bytes) (drop 12 x) (drop 12 y) (omega (arith, are_s.core_most, are_s.distance_most)) (omega (arith, are_t.core_most, are_t.distance_most)) (ap (drop 10) is_s) (ap (drop 10) is_t) in
    let rounds : s.rounds ≡ t.rounds = same-at 2 s.rounds t.rounds (drop 12 bytes) (drop 14 x) (drop 14 y) (omega (arith, are_s.rounds_most)) (omega (arith, are_t.rounds_most)) (ap (drop 12) is_s) (ap (drop 12) is_t) in
    let seed : s.seed ≡ t.seed = same-at 4 s.seed t.seed (drop 14 bytes) (drop 18 x) (drop 18 y) (omega (arith, are_s.seed_most)) (omega (arith, are_t.seed_most)) (ap (drop 14) is_s) (ap (drop 14) is_t) in
    let capacity : s.capacity ≡ t.capacity = same-at 2 s.capacity t.capacity (drop 18 bytes) (drop 20 x) (drop 20 y) (omega (arith, are_s.capacity_most)) (omega (arith, are_t.capacity_most)) (ap (drop 18) is_s) (ap (drop 18) is_t) in
    let small : (u : RawSettings) → AreSettings u → (stored_limit u.core u.read_limit < 256 ^ 2) × (stored_limit u.core u.write_limit < 256 ^ 2) = λ u are.
    (omega (arith, are.core_most, stored-most u.core u.read_limit (limits-most u are).0), omega (arith, are.core_most, stored-most u.core u.write_limit (limits-most u are).1)) in
    let stored_read = same-at 2 (stored_limit s.core s.read_limit) (stored_limit t.core t.read_limit) (drop 20 bytes) (drop 22 x) (drop 22 y) (small s are_s).0 (small t are_t).0 (ap (drop 20) is_s) (ap (drop 20) is_t) in
    let stored_write = same-at 2 (stored_limit s.core s.write_limit) (stored_limit t.core t.write_limit) (drop 22 bytes) (drop 24 x) (drop 24 y) (small s are_s).1 (small t are_t).1 (ap (drop 22) is_s) (ap (drop 22) is_t) in
    let read : s.read_limit ≡ t.read_limit = limit-same s.core t.core s.read_limit t.read_limit are_s.read_least are_s.read_divides are_t.read_least are_t.read_divides core stored_read in
    let write : s.write_limit ≡ t.write_limit = limit-same s.core t.core s.write_limit t.write_limit are_s.write_least are_s.write_divides are_t.write_least are_t.write_divides core stored_write in
    λ i. record { core = core i; cycles = cycles i; processes = processes i; length = length i; distance = distance i; rounds = rounds i; seed = seed i; capacity = capacity i; read_limit = read i; write_limit = write i }

abbrev IsStored : HeaderEntry → Type 0
IsStored e = (e.entry < 2 ^ 64) × (e.age < 2 ^ 64)

entry-same : (e f : HeaderEntry) (r q : List ℕ) → IsStored e → IsStored f → entry_bytes e ++ r ≡ entry_bytes f ++ q → e ≡ f
entry-same e f r q fits_e fits_f same =
    let x : List ℕ = entry_bytes e ++ r in
    let entry : e.entry ≡ f.entry = same-at 8 e.entry f.entry x (drop 8 x) (drop 8 (entry_bytes f ++ q)) fits_e.0 fits_f.0 refl same in
    let slot : e.slot ≡ f.slot = ap (λ bytes. get_or bytes 8 0) same in
    let age : e.age ≡ f.age = same-at 8 e.age f.age (drop 9 x) r q fits_e.1 fits_f.1 refl (ap (drop 9) same) in
    λ i. record { entry = entry i; slot = slot i; age = age i }

entries-same : (n : ℕ) (es fs : List HeaderEntry) (r q : List ℕ) → length es ≡ length fs → length es ≤ n → All IsStored es → All IsStored fs → entry_places n es ++ r ≡ entry_places n fs ++ q → es ≡ fs
entries-same n [] [] r q size few fits_e fits_f same = refl
entries-same n [] (f ∷ fs) r q size few fits_e fits_f same = absurd (omega (arith, size))
entries-same n (e ∷ es) [] r q size few fits_e fits_f same = absurd (omega (arith, size))
entries-same zero (e ∷ es) (f ∷ fs) r q size few fits_e fits_f same = absurd (omega (arith, few))
entries-same (suc n) (e ∷ es) (f ∷ fs) r q size few fits_e fits_f same =
    let head : e ≡ f = entry-same e f (entry_places n es ++ r) (entry_places n fs ++ q) (All-head IsStored e es fits_e) (All-head IsStored f fs fits_f) same in
    let tail : es ≡ fs = entries-same n es fs r q (omega (arith, size)) (omega (arith, few)) (All-tail IsStored e es fits_e) (All-tail IsStored f fs fits_f) (ap (drop 17) same) in
    ap (λ x. x ∷ es) head ∙ ap (λ xs. f ∷ xs) tail

few-entries : (h : HeaderParts) → IsHeaderParts h → length h.entries ≤ 20
few-entries h is = omega (arith, is.few, is.settings.capacity_most)

counter-fits : (h : HeaderParts) → IsHeaderParts h → h.counter < 2 ^ 64
counter-fits h is = omega (arith, is.counter, is.generation)

-- one header at most has these bytes
pub same_header : (layout : Layout) (bytes : List ℕ) (g h : HeaderParts) → IsHeader layout bytes g → IsHeader layout bytes h → g ≡ h
same_header layout bytes g h is_g is_h =
    let a : List ℕ = header_fields g in
    let b : List ℕ = header_fields h in
    let top_g = is_g.header.generation in
    let top_h = is_h.header.generation in
    let few_g = few-entries g is_g.header in
    let few_h = few-entries h is_h.header in
    let generation : g.generation ≡ h.generation = same-at 8 g.generation h.generation (drop 8 bytes) (drop 8 a) (drop 8 b) (omega (arith, top_g)) (omega (arith, top_h)) (generation-at layout bytes g is_g.bytes_are) (generation-at layout bytes h is_h.bytes_are) in
    let settings : g.settings ≡ h.settings = settings-same g.settings h.settings (drop 16 bytes) (drop 32 a) (drop 32 b) is_g.header.settings is_h.header.settings (settings-at layout bytes g is_g.bytes_are) (settings-at layout bytes h is_h.bytes_are) in
    let counter : g.counter ≡ h.counter = same-at 8 g.counter h.counter (drop 40 bytes) (drop 40 a) (drop 40 b) (counter-fits g is_g.header) (counter-fits h is_h.header) (counter-at layout bytes g is_g.bytes_are) (counter-at layout bytes h is_h.bytes_are) in
    let size : length g.entries ≡ length h.entries = same-at 2 (length g.entries) (length h.entries) (drop 48 bytes) (drop 42 a) (drop 42 b) (omega (arith, few_g)) (omega (arith, few_h)) (count-at layout bytes g is_g.bytes_are) (count-at layout bytes h is_h.bytes_are) in
    let entries : g.entries ≡ h.entries = entries-same 20 g.entries h.entries (replicate 122 0) (replicate 122 0) size few_g
    (entries-fit g.settings.capacity g.counter g.entries (counter-fits g is_g.header) is_g.header.entries)
    (entries-fit h.settings.capacity h.counter h.entries (counter-fits h is_h.header) is_h.header.entries)
    (sym (entries-at layout bytes g is_g.bytes_are) ∙ entries-at layout bytes h is_h.bytes_are) in
    λ i. record { generation = generation i; settings = settings i; counter = counter i; entries = entries i }
