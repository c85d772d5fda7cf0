-- What stands at each place of a header's bytes.
use Rattle.std.proofs.Common.{◌≡◌, Option, None, Some, true, false, nat_lt, All, subst, ℕ, zero, suc, ◌+◌, ◌-◌, ◌*◌, ◌^◌, ◌<◌, ◌≤◌, List, [], ◌∷◌, ◌++◌, length, get_or, set, take, drop, replicate}
use Rattle.std.proofs.{Common.{arith, refl, sym, ap, ◌∙◌}, lemmas.List.{append_assoc, drop-drop, drop_at, drop_more, drop_all, take_more, take-set-le, get_or-set_same, length-set}}
use Rattle.{std.proofs.{lemmas.List.Elements.All-weaker, lemmas.Bool.Decides.nat_tests}, std.specs.{Option.SomeIff, Int.bytes_high_first}}
use Rattle.{byteorder.specs.{Endian.big_from, Numbers.big_number-reads_back}, war_types.specs.declared.settings.RawSettings.RawSettings, hill_bytes.specs.declared.header.HeaderEntry.HeaderEntry}
use Rattle.hill_bytes.specs.Layout.{HeaderParts, IsHeaderParts, IsEntry, Layout, header_parts, header_bytes, settings_bytes, limit_bytes, entry_bytes, entry_places}

-- the number at a place is the one that was written there
pub number-at : (k n : ℕ) (bytes rest : List ℕ) → n < 256 ^ k → bytes ≡ bytes_high_first k n ++ rest → big_from 0 k bytes ≡ n
number-at k n bytes rest below e = ap (big_from 0 k) e ∙ big_number-reads_back k n rest below

-- the fields of a header, after the eight bytes that it begins with
abbrev pub header_fields : HeaderParts → List ℕ
header_fields h =
    bytes_high_first 8 h.generation ++ settings_bytes h.settings ++ limit_bytes h.settings ++ bytes_high_first 8 h.counter
    ++ bytes_high_first 2 (length h.entries) ++ entry_places 20 h.entries ++ replicate 122 0

regrouped : (a b c d e f g h : List ℕ) → (((((((a ++ b) ++ c) ++ d) ++ e) ++ f) ++ g) ++ h) ≡ a ++ ((((((b ++ c) ++ d) ++ e) ++ f) ++ g) ++ h)
regrouped a b c d e f g h = simp append_assoc

pub fields-behind : (layout : Layout) (h : HeaderParts) → drop 8 (header_bytes layout h) ≡ header_fields h
unfolding header_bytes
fields-behind layout h =
    ap (drop 8) (regrouped layout.magic (bytes_high_first 8 h.generation) (settings_bytes h.settings) (limit_bytes h.settings) (bytes_high_first 8 h.counter)
    (bytes_high_first 2 (length h.entries)) (entry_places 20 h.entries) (replicate 122 0))
    ∙ drop_at layout.magic (header_fields h) 8 layout.magic_long

generation_behind : (layout : Layout) (bytes : List ℕ) (h : HeaderParts) → bytes ≡ header_bytes layout h → drop 8 bytes ≡ header_fields h
generation_behind layout bytes h e = ap (drop 8) e ∙ fields-behind layout h

pub generation-at : (layout : Layout) (bytes : List ℕ) (h : HeaderParts) → bytes ≡ header_bytes layout h → drop 8 bytes ≡ bytes_high_first 8 h.generation ++ drop 8 (header_fields h)
generation-at layout bytes h e = generation_behind layout bytes h e

pub settings-at : (layout : Layout) (bytes : List ℕ) (h : HeaderParts) → bytes ≡ header_bytes layout h → drop 16 bytes ≡ settings_bytes h.settings ++ limit_bytes h.settings ++ drop 32 (header_fields h)
settings-at layout bytes h e = sym (drop-drop 8 8 bytes) ∙ ap (drop 8) (generation_behind layout bytes h e)

pub counter-at : (layout : Layout) (bytes : List ℕ) (h : HeaderParts) → bytes ≡ header_bytes layout h → drop 40 bytes ≡ bytes_high_first 8 h.counter ++ drop 40 (header_fields h)
counter-at layout bytes h e = sym (drop-drop 32 8 bytes) ∙ ap (drop 32) (generation_behind layout bytes h e)

pub count-at : (layout : Layout) (bytes : List ℕ) (h : HeaderParts) → bytes ≡ header_bytes layout h → drop 48 bytes ≡ bytes_high_first 2 (length h.entries) ++ drop 42 (header_fields h)
count-at layout bytes h e = sym (drop-drop 40 8 bytes) ∙ ap (drop 40) (generation_behind layout bytes h e)

pub entries-at : (layout : Layout) (bytes : List ℕ) (h : HeaderParts) → bytes ≡ header_bytes layout h → drop 50 bytes ≡ entry_places 20 h.entries ++ replicate 122 0
entries-at layout bytes h e = sym (drop-drop 42 8 bytes) ∙ ap (drop 42) (generation_behind layout bytes h e)

-- the i-th place holds the i-th entry
pub place-at : (n : ℕ) (es : List HeaderEntry) (i : ℕ) (d : HeaderEntry) (rest : List ℕ) → i < length es → length es ≤ n → (behind : List ℕ) × (drop (17 * i) (entry_places n es ++ rest) ≡ entry_bytes (get_or es i d) ++ behind)
place-at n [] i d rest inside few = absurd (omega arith)
place-at zero (e ∷ es) i d rest inside few = absurd (omega arith)
place-at (suc n) (e ∷ es) zero d rest inside few = (entry_places n es ++ rest, refl)
place-at (suc n) (e ∷ es) (suc i) d rest inside few =
    let further = place-at n es i d rest (omega arith) (omega arith) in
    let past : 17 + 17 * i ≡ 17 * suc i = omega arith in (
      further.0,
      ap (λ k. drop k ((entry_bytes e ++ entry_places n es) ++ rest)) (sym past)
          ∙ (sym (drop-drop (17 * i) 17 ((entry_bytes e ++ entry_places n es) ++ rest)) ∙ further.1),
    )

-- one more of these was read
pub set-step : {X : Type 0} (xs ys : List X) (i : ℕ) (e : X) → i < length xs → i < length ys → take i xs ≡ take i ys → e ≡ get_or ys i e → take (i + 1) (set xs i e) ≡ take (i + 1) ys
set-step xs ys i e inside also same is =
    let room : i < length (set xs i e) = simp length-set inside in
    let written : take (i + 1) (set xs i e) ≡ take i xs ++ e ∷ [] =
    take_more (set xs i e) i e room
    ∙ ap (λ zs. zs ++ get_or (set xs i e) i e ∷ []) (take-set-le i xs i e (omega arith))
    ∙ ap (λ z. take i xs ++ z ∷ []) (get_or-set_same xs i e e inside) in
    written ∙ ap (λ zs. zs ++ e ∷ []) same ∙ ap (λ z. take i ys ++ z ∷ []) is ∙ sym (take_more ys i e also)

-- of the places from a place on, the first holds the entry there, or zeros
pub places-some : (es : List HeaderEntry) (i : ℕ) (d : HeaderEntry) → i < length es → i < 20 → entry_places (20 - i) (drop i es) ≡ entry_bytes (get_or es i d) ++ entry_places (20 - (i + 1)) (drop (i + 1) es)
places-some es i d inside few =
    let left : 20 - i ≡ suc (20 - (i + 1)) = omega arith in
    ap (λ n. entry_places n (drop i es)) left ∙ ap (entry_places (suc (20 - (i + 1)))) (drop_more es i d inside)

pub places-none : (es : List HeaderEntry) (i : ℕ) → length es ≤ i → i < 20 → entry_places (20 - i) (drop i es) ≡ replicate 17 0 ++ entry_places (20 - (i + 1)) (drop (i + 1) es)
places-none es i behind few =
    let left : 20 - i ≡ suc (20 - (i + 1)) = omega arith in
    ap (λ n. entry_places n (drop i es)) left ∙ ap (entry_places (suc (20 - (i + 1)))) (drop_all i es behind)
    ∙ ap (λ rest. replicate 17 0 ++ entry_places (20 - (i + 1)) rest) (sym (drop_all (i + 1) es (omega arith)))

-- what was written, and the places that are left
pub place-step : (w now place rest before all : List ℕ) → now ≡ w ++ place → before ≡ place ++ rest → w ++ before ≡ all → now ++ rest ≡ all
place-step w now place rest before all written split whole =
    ap (λ x. x ++ rest) written ∙ append_assoc w place rest ∙ ap (λ x. w ++ x) (sym split) ∙ whole

pub below-true : (a b : ℕ) → true ≡ nat_lt a b → a < b
below-true a b h = grind (arith, nat_tests)

pub not_below-false : (a b : ℕ) → false ≡ nat_lt a b → b ≤ a
not_below-false a b h = grind (arith, nat_tests)

pub entries-fit : (capacity counter : ℕ) (es : List HeaderEntry) → counter < 2 ^ 64 → All (IsEntry capacity counter) es → All (λ e. (e.entry < 2 ^ 64) × (e.age < 2 ^ 64)) es
entries-fit capacity counter es below all = All-weaker (IsEntry capacity counter) (λ e. (e.entry < 2 ^ 64) × (e.age < 2 ^ 64)) (entry-fits capacity counter below) es all where
  entry-fits : (capacity counter : ℕ) → counter < 2 ^ 64 → (e : HeaderEntry) → IsEntry capacity counter e → (e.entry < 2 ^ 64) × (e.age < 2 ^ 64)
  entry-fits capacity counter below e is = let most = is.entry in let old = is.age in (omega (arith, most), omega (arith, old))

some-made : (r : Option HeaderParts) (P : Type 0) (v : HeaderParts) → SomeIff r P v → P → r ≡ Some v
some-made None P v iff p = absurd (iff p)
some-made (Some x) P v iff p = ap Some iff.1

-- a header that is made of what was read is the one whose bytes they are
pub made : (generation : ℕ) (settings : RawSettings) (counter : ℕ) (entries : List HeaderEntry) (h : HeaderParts) (r : Option HeaderParts) → generation ≡ h.generation → settings ≡ h.settings → counter ≡ h.counter → entries ≡ h.entries → IsHeaderParts h → SomeIff r (IsHeaderParts (header_parts generation settings counter entries)) (header_parts generation settings counter entries) → r ≡ Some h
made generation settings counter entries h r g s k e is iff =
    let same : header_parts generation settings counter entries ≡ h = λ i. record { generation = g i; settings = s i; counter = k i; entries = e i } in
    some-made r (IsHeaderParts (header_parts generation settings counter entries)) (header_parts generation settings counter entries) iff (subst IsHeaderParts (sym same) is)
    ∙ ap Some same
