-- Writes one after the other, and the settings that stand in a header.
use Rattle.std.proofs.{Common.{◌≡◌, ℕ, ◌%◌, ◌≤◌, ◌==◌, Bool, true, false, if◌then◌else◌, List, [], ◌++◌, Ok, arith, ap, ◌∙◌, mod-eq_of_lt}, lemmas.List.append_assoc, lemmas.Bool.Decides.nat_tests}
use Rattle.{std.specs.Int.bytes_high_first, war_types.specs.{declared.settings.RawSettings.RawSettings, Settings.{AreSettings, is_limit, limit_of, settings_of}}, hill_bytes.specs.Layout.stored_limit}

-- the number that is written is known by another name
pub renamed : (k : ℕ) (before now : List ℕ) (n m : ℕ) → n ≡ m → now ≡ before ++ bytes_high_first k n → now ≡ before ++ bytes_high_first k m
renamed k before now n m same e = e ∙ ap (λ x. before ++ bytes_high_first k x) same

pub writes-3 : (w w1 w2 w3 a b c : List ℕ) → w1 ≡ w ++ a → w2 ≡ w1 ++ b → w3 ≡ w2 ++ c → w3 ≡ w ++ ((a ++ b) ++ c)
writes-3 w w1 w2 w3 a b c e1 e2 e3 =
    let flat : w3 ≡ ((w ++ a) ++ b) ++ c = cc in
    let regrouped : ((w ++ a) ++ b) ++ c ≡ w ++ ((a ++ b) ++ c) = simp append_assoc in
    flat ∙ regrouped

pub writes-8 : (w w1 w2 w3 w4 w5 w6 w7 w8 a b c d e f g h : List ℕ) → w1 ≡ w ++ a → w2 ≡ w1 ++ b → w3 ≡ w2 ++ c → w4 ≡ w3 ++ d → w5 ≡ w4 ++ e → w6 ≡ w5 ++ f → w7 ≡ w6 ++ g → w8 ≡ w7 ++ h → w8 ≡ w ++ (((((((a ++ b) ++ c) ++ d) ++ e) ++ f) ++ g) ++ h)
writes-8 w w1 w2 w3 w4 w5 w6 w7 w8 a b c d e f g h e1 e2 e3 e4 e5 e6 e7 e8 =
    let flat : w8 ≡ (((((((w ++ a) ++ b) ++ c) ++ d) ++ e) ++ f) ++ g) ++ h = cc in
    let regrouped : (((((((w ++ a) ++ b) ++ c) ++ d) ++ e) ++ f) ++ g) ++ h ≡ w ++ (((((((a ++ b) ++ c) ++ d) ++ e) ++ f) ++ g) ++ h) = simp append_assoc in
    flat ∙ regrouped

abbrev pub with_stored_limits : RawSettings → RawSettings
with_stored_limits s = record s { read_limit = stored_limit s.core s.read_limit; write_limit = stored_limit s.core s.write_limit }

-- a divisor is at most what it divides
divisor-most : (n d : ℕ) → 1 ≤ n → n % d ≡ 0 → d ≤ n
divisor-most n d some divides = grind (arith, mod-eq_of_lt, nat_tests)

pub limits-most : (s : RawSettings) → AreSettings s → (s.read_limit ≤ s.core) × (s.write_limit ≤ s.core)
limits-most s are =
    let some : 1 ≤ s.core = omega (arith, are.core_least) in
    (divisor-most s.core s.read_limit some are.read_divides, divisor-most s.core s.write_limit some are.write_divides)

stored-by : (b : Bool) (core limit : ℕ) → limit ≤ core → (if b then 0 else limit) ≤ core
stored-by true core limit most = omega arith
stored-by false core limit most = most

pub stored-most : (core limit : ℕ) → limit ≤ core → stored_limit core limit ≤ core
stored-most core limit most = stored-by (limit == core) core limit most

-- a limit that is stored is read as that limit
pub limit-back : (core limit : ℕ) → 1 ≤ limit → core % limit ≡ 0 → (is_limit core (stored_limit core limit) ≡ true) × (limit_of core (stored_limit core limit) ≡ limit)
limit-back core limit least divides = (grind (arith, nat_tests), grind (arith, nat_tests))

-- settings in their ranges are read back
pub settings_of-stored : (s : RawSettings) → AreSettings s → settings_of (with_stored_limits s) ≡ Ok s
settings_of-stored s are =
    let read = limit-back s.core s.read_limit are.read_least are.read_divides in
    let write = limit-back s.core s.write_limit are.write_least are.write_divides in
    grind (arith, nat_tests)

pub rewritten : (before now x y : List ℕ) → x ≡ y → now ≡ before ++ x → now ≡ before ++ y
rewritten before now x y same e = e ∙ ap (λ z. before ++ z) same

-- eight writes to an empty sector
pub writes-all : (w0 w1 w2 w3 w4 w5 w6 w7 w8 a b c d e f g h : List ℕ) → w0 ≡ [] → w1 ≡ w0 ++ a → w2 ≡ w1 ++ b → w3 ≡ w2 ++ c → w4 ≡ w3 ++ d → w5 ≡ w4 ++ e → w6 ≡ w5 ++ f → w7 ≡ w6 ++ g → w8 ≡ w7 ++ h → w8 ≡ ((((((a ++ b) ++ c) ++ d) ++ e) ++ f) ++ g) ++ h
writes-all w0 w1 w2 w3 w4 w5 w6 w7 w8 a b c d e f g h e0 e1 e2 e3 e4 e5 e6 e7 e8 = let first : w1 ≡ a = e1 ∙ ap (λ w. w ++ a) e0 in cc

-- eight writes to an empty sector, the first two of them apart
pub writes-behind : (w0 w1 w2 w3 w4 w5 w6 w7 w8 a z b c d e f g : List ℕ) → w0 ≡ [] → w1 ≡ w0 ++ a → w2 ≡ w1 ++ z → w3 ≡ w2 ++ b → w4 ≡ w3 ++ c → w5 ≡ w4 ++ d → w6 ≡ w5 ++ e → w7 ≡ w6 ++ f → w8 ≡ w7 ++ g → w8 ≡ a ++ (z ++ (((((b ++ c) ++ d) ++ e) ++ f) ++ g))
writes-behind w0 w1 w2 w3 w4 w5 w6 w7 w8 a z b c d e f g e0 e1 e2 e3 e4 e5 e6 e7 e8 =
    let first : w1 ≡ a = e1 ∙ ap (λ w. w ++ a) e0 in
    let flat : w8 ≡ ((((((a ++ z) ++ b) ++ c) ++ d) ++ e) ++ f) ++ g = cc in
    let regrouped : ((((((a ++ z) ++ b) ++ c) ++ d) ++ e) ++ f) ++ g ≡ a ++ (z ++ (((((b ++ c) ++ d) ++ e) ++ f) ++ g)) = simp append_assoc in
    flat ∙ regrouped
