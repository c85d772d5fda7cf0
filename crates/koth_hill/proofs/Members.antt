-- The members of a hill: those that fall, those that stay, and their order.
use Rattle.std.proofs.Common.{◌≡◌, ℕ, ◌+◌, ◌-◌, ◌<◌, ◌≤◌, Bool, true, false, cond, List, [], ◌∷◌, ◌++◌, length, map, get_or, refl, sym, ap, ◌∙◌, arith, Option, None, Some, suc, zero}
use Rattle.{std.specs.{Prelude.{◌==◌, nat_lt}, List.{remove, position, position_or_len}}, std.proofs.lemmas.List.Sums.fails_before_first}
use Rattle.std.proofs.{lemmas.Bool.{ltb-false, eqb-true, ne_eqb, cond-true, cond-false}, lemmas.List.length_push, lemmas.List.Elements.All-push, lemmas.List.Quantifiers.position-Some}
use Rattle.{war_types.specs.Warrior.Fits, koth_hill.specs.{Hill.{Member, Hill, hill_of, with_age, last_entry, last_entry_from, RiseFrom, MayStand, IsHill}, Step.{is_entry, without, one_older}}}

abbrev pub older : Member → Member
older m = with_age (m.age + 1) m

pub one_older-map : (ms : List Member) → one_older ms ≡ map older ms
one_older-map [] = refl
one_older-map (m ∷ ms) = ap (λ rest. older m ∷ rest) (one_older-map ms)

-- ---- entries that rise

pub RiseFrom-push : (before : ℕ) (ms : List Member) (m : Member) → RiseFrom before ms → last_entry_from before ms < m.entry → RiseFrom before (ms ++ m ∷ [])
RiseFrom-push before [] m rising above = (above, tt)
RiseFrom-push before (n ∷ ms) m rising above = (rising.0, RiseFrom-push n.entry ms m rising.1 above)

-- one that is not above a number is not among members after it
pub without-behind : (entry before : ℕ) (ms : List Member) → RiseFrom before ms → entry ≤ before → without (Some entry) ms ≡ ms
without-behind entry before [] rising below = refl
without-behind entry before (m ∷ ms) rising below =
    let other : m.entry == entry ≡ false = ne_eqb m.entry entry (λ same. omega (arith, rising.0, below, same))
    in rw other (ap (λ rest. m ∷ rest) (without-behind entry m.entry ms rising.1 (omega (arith, rising.0, below))))

pub without-None : (ms : List Member) → without None ms ≡ ms
without-None [] = refl
without-None (m ∷ ms) = ap (λ rest. m ∷ rest) (without-None ms)

-- if no member has the entry, none goes
pub without-absent : (fallen : Option ℕ) (ms : List Member) → ((k : ℕ) (d : Member) → k < length ms → is_entry (get_or ms k d).entry fallen ≡ false) → without fallen ms ≡ ms
without-absent fallen [] absent = refl
without-absent fallen (m ∷ ms) absent =
    let other : is_entry m.entry fallen ≡ false = absent 0 m (omega arith)
    in cond-false (is_entry m.entry fallen) (without fallen ms) (m ∷ without fallen ms) other
    ∙ ap (λ rest. m ∷ rest) (without-absent fallen ms (λ k d within. absent (suc k) d (omega (arith, within))))

no_some : (b : Bool) (n : ℕ) → cond b (Some n) None ≡ None → b ≡ false
no_some true n none = cc
no_some false n none = refl

-- if none passes a test, the first that passes would be past the end
none_past : (p : Member → Bool) (ms : List Member) → position p ms ≡ None → length ms ≤ position_or_len p ms
none_past p ms none = ltb-false (position_or_len p ms) (length ms) (no_some (nat_lt (position_or_len p ms) (length ms)) (position_or_len p ms) none)

no_entry : (fallen : Option ℕ) (ms : List Member) → position (λ m. is_entry m.entry fallen) ms ≡ None → without fallen ms ≡ ms
no_entry fallen ms none = without-absent fallen ms (λ k d within. fails_before_first (λ m. is_entry m.entry fallen) ms k d (omega (arith, within, none_past (λ m. is_entry m.entry fallen) ms none)))

-- the first member of the entry goes
removed : (entry before : ℕ) (ms : List Member) (i : ℕ) (d : Member) → RiseFrom before ms → i < length ms → (get_or ms i d).entry == entry ≡ true →
    ((k : ℕ) → k < i → (get_or ms k d).entry == entry ≡ false) → remove ms i ≡ without (Some entry) ms
removed entry before [] i d rising within here others = absurd (omega (arith, within))
removed entry before (m ∷ ms) zero d rising within here others =
    let same : m.entry ≡ entry = eqb-true m.entry entry here in
    sym (cond-true (m.entry == entry) (without (Some entry) ms) (m ∷ without (Some entry) ms) here
    ∙ without-behind entry m.entry ms rising.1 (omega (arith, same)))
removed entry before (m ∷ ms) (suc i) d rising within here others =
    let other : m.entry == entry ≡ false = others 0 (omega arith) in
    ap (λ rest. m ∷ rest) (removed entry m.entry ms i d rising.1 (omega (arith, within)) here (λ k below. others (suc k) (omega (arith, below))))
    ∙ sym (cond-false (m.entry == entry) (without (Some entry) ms) (m ∷ without (Some entry) ms) other)

pub removed-first : (fallen : Option ℕ) (before : ℕ) (ms : List Member) (i : ℕ) (d : Member) → RiseFrom before ms → position (λ m. is_entry m.entry fallen) ms ≡ Some i →
    remove ms i ≡ without fallen ms
removed-first None before ms i d rising found = let at_i : false ≡ true = (position-Some (λ m. is_entry m.entry None) ms i d found).1 in cc
removed-first (Some entry) before ms i d rising found =
    let first = position-Some (λ m. is_entry m.entry (Some entry)) ms i d found in
    removed entry before ms i d rising first.0 first.1 first.2

pub removed-none : (fallen : Option ℕ) (ms : List Member) → position (λ m. is_entry m.entry fallen) ms ≡ None → ms ≡ without fallen ms
removed-none fallen ms none = sym (no_entry fallen ms none)

-- ---- hills

-- a member after those on a hill
pub IsHill-put_back : (h : Hill) (m : Member) → IsHill h → length h.members < h.settings.capacity → last_entry h.members < m.entry → m.entry ≤ h.counter → m.age ≤ h.counter - m.entry → Fits h.settings m.warrior →
    IsHill (hill_of h.settings h.counter (h.members ++ m ∷ []))
IsHill-put_back h m is room above counted age fits = record {
  settings = is.settings;
  room = omega (arith, length_push h.members m, room);
  rising = RiseFrom-push 0 h.members m is.rising above;
  members = All-push (MayStand h.settings h.counter) h.members m is.members (record { entry = counted; age = age; fits = fits });
}
