-- The hill on which a challenger stays is a hill.
use Rattle.std.proofs.Common.{◌≡◌, ℕ, ◌+◌, ◌<◌, ◌≤◌, ◌⊎◌, inl, inr, Bool, true, false, List, [], ◌∷◌, ◌++◌, length, map, refl, sym, ap, subst, ◌∙◌, arith, suc, Option, None, Some, All}
use Rattle.{std.specs.Prelude.{◌==◌, if◌then◌else◌, nat_lt}, std.proofs.{lemmas.Bool.{lt-ltb, le-ltb, eq-eqb, cond-true, cond-false, cases_lt, cases_Bool}, lemmas.List.length_push}}
use Rattle.{std.proofs.lemmas.List.Elements.{All-head, All-tail, All-cons, All-nil, All-push}, war_types.specs.{declared.settings.RawSettings.RawSettings, Warrior.{WarriorParts, Fits}}}
use Rattle.koth_hill.specs.{declared.score.Score.Score, Hill.{Member, Hill, Results, last_entry, last_entry_from, RiseFrom, MayStand, IsHill}}
use Rattle.koth_hill.specs.{Scores.{score_of, scores_of, rank_among, last_among}, Step.{challenger, enlarged, falling_by, is_entry, without, one_older, stays_by, after_stay}, Laws.In}
use Rattle.koth_hill.proofs.{Members.{older, RiseFrom-push}, Scored.{scores-rising, scores-length, IsScored, score-member, IsLastScore, last_among-score, last_among-none}}

-- ---- members of lists

pub All-In : (P : Member → Type 0) (ms : List Member) (m : Member) → All P ms → In m ms → P m
All-In P [] m all here = absurd here
All-In P (x ∷ ms) m all (inl same) = subst P (sym same) (All-head P x ms all)
All-In P (x ∷ ms) m all (inr later) = All-In P ms m (All-tail P x ms all) later

pub All-from-In : (P : Member → Type 0) (ms : List Member) → ((m : Member) → In m ms → P m) → All P ms
All-from-In P [] each = All-nil P
All-from-In P (x ∷ ms) each = All-cons P x ms (each x (inl refl)) (All-from-In P ms (λ m here. each m (inr here)))

pub In-push : (ms : List Member) (c m : Member) → In m (ms ++ c ∷ []) → In m ms ⊎ (m ≡ c)
In-push [] c m (inl same) = inr same
In-push [] c m (inr none) = absurd none
In-push (x ∷ ms) c m (inl same) = inl (inl same)
In-push (x ∷ ms) c m (inr later) = elim (In-push ms c m later) [ inl here ↦ inl (inr here) | inr last ↦ inr last ]

pub last_entry_from-most : (before most : ℕ) (ms : List Member) → before ≤ most → ((m : Member) → In m ms → m.entry ≤ most) → last_entry_from before ms ≤ most
last_entry_from-most before most [] le each = le
last_entry_from-most before most (x ∷ ms) le each = last_entry_from-most x.entry most ms (each x (inl refl)) (λ m here. each m (inr here))

-- ---- without the one that falls

pub without-In : (fallen : Option ℕ) (ms : List Member) (m : Member) → In m (without fallen ms) → In m ms
without-In fallen [] m here = absurd here
without-In fallen (x ∷ ms) m here = elim (cases_Bool (is_entry x.entry fallen)) [
  | inl goes ↦
      let P : List Member → Type 0 = λ xs. In m xs in
      inr (without-In fallen ms m (subst P (cond-true (is_entry x.entry fallen) (without fallen ms) (x ∷ without fallen ms) goes) here))
  | inr keeps ↦
      let P : List Member → Type 0 = λ xs. In m xs in
      elim (subst P (cond-false (is_entry x.entry fallen) (without fallen ms) (x ∷ without fallen ms) keeps) here) [
        | inl same ↦ inl same
        | inr later ↦ inr (without-In fallen ms m later)
      ]
]

without-step : (b : Bool) (x : Member) (rest : List Member) (n : ℕ) → length rest ≤ n → length (if b then rest else x ∷ rest) ≤ suc n
without-step true x rest n le = omega arith
without-step false x rest n le = omega arith

pub without-most : (fallen : Option ℕ) (ms : List Member) → length (without fallen ms) ≤ length ms
without-most fallen [] = omega arith
without-most fallen (x ∷ ms) = without-step (is_entry x.entry fallen) x (without fallen ms) (length ms) (without-most fallen ms)

without-here : (b : Bool) (x : Member) (rest : List Member) (n : ℕ) → b ≡ true → length rest ≤ n → length (if b then rest else x ∷ rest) < suc n
without-here true x rest n goes le = omega arith
without-here false x rest n goes le = cc

without-later : (b : Bool) (x : Member) (rest : List Member) (n : ℕ) → length rest < n → length (if b then rest else x ∷ rest) < suc n
without-later true x rest n lt = omega arith
without-later false x rest n lt = omega arith

pub without-less : (entry : ℕ) (ms : List Member) (m : Member) → In m ms → m.entry ≡ entry → length (without (Some entry) ms) < length ms
without-less entry [] m here is = absurd here
without-less entry (x ∷ ms) m (inl same) is =
    without-here (x.entry == entry) x (without (Some entry) ms) (length ms) (eq-eqb x.entry entry (ap (λ (y : Member). y.entry) (sym same) ∙ is)) (without-most (Some entry) ms)
without-less entry (x ∷ ms) m (inr later) is = without-later (x.entry == entry) x (without (Some entry) ms) (length ms) (without-less entry ms m later is)

RiseFrom-lower : (low before : ℕ) (ms : List Member) → low ≤ before → RiseFrom before ms → RiseFrom low ms
RiseFrom-lower low before [] le rising = tt
RiseFrom-lower low before (x ∷ ms) le rising = (omega (arith, le, rising.0), rising.1)

rising-step : (b : Bool) (before : ℕ) (x : Member) (rest : List Member) → before < x.entry → RiseFrom x.entry rest → RiseFrom before (if b then rest else x ∷ rest)
rising-step true before x rest lt rising = RiseFrom-lower before x.entry rest (omega arith) rising
rising-step false before x rest lt rising = (lt, rising)

pub without-rising : (fallen : Option ℕ) (before : ℕ) (ms : List Member) → RiseFrom before ms → RiseFrom before (without fallen ms)
without-rising fallen before [] rising = tt
without-rising fallen before (x ∷ ms) rising =
    rising-step (is_entry x.entry fallen) before x (without fallen ms) rising.0 (without-rising fallen x.entry ms rising.1)

-- ---- one older

pub one_older-length : (ms : List Member) → length (one_older ms) ≡ length ms
one_older-length [] = refl
one_older-length (x ∷ ms) = ap suc (one_older-length ms)

pub one_older-rising : (before : ℕ) (ms : List Member) → RiseFrom before ms → RiseFrom before (one_older ms)
one_older-rising before [] rising = tt
one_older-rising before (x ∷ ms) rising = (rising.0, one_older-rising x.entry ms rising.1)

pub one_older-all : (P Q : Member → Type 0) (ms : List Member) → ((m : Member) → P m → Q (older m)) → All P ms → All Q (one_older ms)
one_older-all P Q [] each all = All-nil Q
one_older-all P Q (x ∷ ms) each all = All-cons Q (older x) (one_older ms) (each x (All-head P x ms all)) (one_older-all P Q ms each (All-tail P x ms all))

-- ---- the one that falls

-- the member of the last rank
pub record IsLast (f : Results) (all ms : List Member) (entry : ℕ) : Type 0 where
  pub member : Member
  pub here : In member ms
  pub last : rank_among (scores_of f all) (score_of f all member) ≡ length all
  pub is : member.entry ≡ entry

pub last_among-some : (f : Results) (all ms : List Member) (entry : ℕ) → last_among (scores_of f all) (map (score_of f all) ms) ≡ Some entry → IsLast f all ms entry
last_among-some f all ms entry found =
    let one : IsLastScore (scores_of f all) (map (score_of f all) ms) entry = last_among-score (scores_of f all) (map (score_of f all) ms) entry found in
    let of : IsScored f all ms one.score = score-member f all ms one.score one.here in record {
      member = of.member;
      here = of.here;
      last = ap (λ (x : Score). rank_among (scores_of f all) x) (sym of.is) ∙ one.last ∙ scores-length f all;
      is = ap (λ (x : Score). x.entry) (sym of.is) ∙ one.is;
    }

pub entries-most : (h : Hill) → IsHill h → (m : Member) → In m h.members → m.entry ≤ h.counter
entries-most h is m here = (All-In (MayStand h.settings h.counter) h.members m is.members here).entry

pub enlarged-rising : (h : Hill) (w : WarriorParts) → IsHill h → RiseFrom 0 (enlarged h w)
enlarged-rising h w is =
    let most : last_entry h.members ≤ h.counter = last_entry_from-most 0 h.counter h.members (omega arith) (entries-most h is) in
    RiseFrom-push 0 h.members (challenger h w) is.rising (omega (arith, most))

-- if they are too many, one falls
pub falling-one : (f : Results) (h : Hill) (w : WarriorParts) → IsHill h → last_among (scores_of f (enlarged h w)) (scores_of f (enlarged h w)) ≡ None → ⊥
falling-one f h w is none =
    last_among-none (scores_of f (enlarged h w)) (scores-rising f (enlarged h w) (enlarged-rising h w is))
    (omega (arith, scores-length f (enlarged h w), length_push h.members (challenger h w))) none

-- a challenger that stays is not the one that falls
stays-other : (f : Results) (h : Hill) (w : WarriorParts) (entry : ℕ) → stays_by f h w ≡ true → falling_by f h w ≡ Some entry → entry ≡ h.counter + 1 → ⊥
stays-other f h w entry stay falls same =
    let own : is_entry (h.counter + 1) (falling_by f h w) ≡ true = ap (is_entry (h.counter + 1)) falls ∙ eq-eqb (h.counter + 1) entry (sym same) in
    let wrong : false ≡ true = sym (cond-true (is_entry (h.counter + 1) (falling_by f h w)) false true own) ∙ stay in
    cc

room-some : (f : Results) (h : Hill) (w : WarriorParts) (entry : ℕ) → stays_by f h w ≡ true → falling_by f h w ≡ Some entry →
    last_among (scores_of f (enlarged h w)) (scores_of f (enlarged h w)) ≡ Some entry → length (without (falling_by f h w) h.members) < length h.members
room-some f h w entry stay falls found =
    let last : IsLast f (enlarged h w) (enlarged h w) entry = last_among-some f (enlarged h w) (enlarged h w) entry found in
    elim (In-push h.members (challenger h w) last.member last.here) [
      | inl here ↦
          let less : length (without (Some entry) h.members) < length h.members = without-less entry h.members last.member here last.is in
          let P : Option ℕ → Type 0 = λ o. length (without o h.members) < length h.members in
          subst P (sym falls) less
      | inr own ↦ absurd (stays-other f h w entry stay falls (sym last.is ∙ ap (λ (y : Member). y.entry) own))
    ]

room-full : (f : Results) (h : Hill) (w : WarriorParts) (found : Option ℕ) → IsHill h → stays_by f h w ≡ true → falling_by f h w ≡ found →
    last_among (scores_of f (enlarged h w)) (scores_of f (enlarged h w)) ≡ found → length (without (falling_by f h w) h.members) < length h.members
room-full f h w None is stay falls last = absurd (falling-one f h w is last)
room-full f h w (Some entry) is stay falls last = room-some f h w entry stay falls last

-- if there is room, nobody falls
pub falling-room : (f : Results) (h : Hill) (w : WarriorParts) → length h.members < h.settings.capacity → falling_by f h w ≡ None
falling-room f h w room =
    cond-false (nat_lt h.settings.capacity (length (enlarged h w))) (last_among (scores_of f (enlarged h w)) (scores_of f (enlarged h w))) None
    (le-ltb h.settings.capacity (length (enlarged h w)) (omega (arith, length_push h.members (challenger h w), room)))

-- and else the last
pub falling-last : (f : Results) (h : Hill) (w : WarriorParts) → h.settings.capacity ≤ length h.members → falling_by f h w ≡ last_among (scores_of f (enlarged h w)) (scores_of f (enlarged h w))
falling-last f h w full =
    cond-true (nat_lt h.settings.capacity (length (enlarged h w))) (last_among (scores_of f (enlarged h w)) (scores_of f (enlarged h w))) None
    (lt-ltb h.settings.capacity (length (enlarged h w)) (omega (arith, length_push h.members (challenger h w), full)))

pub room-left : (f : Results) (h : Hill) (w : WarriorParts) → IsHill h → stays_by f h w ≡ true → length (without (falling_by f h w) h.members) < h.settings.capacity
room-left f h w is stay = elim (cases_lt (length h.members) h.settings.capacity) [
  | inl room ↦
      let fewer : length (without (falling_by f h w) h.members) ≤ length h.members = without-most (falling_by f h w) h.members in
      omega (arith, fewer, room)
  | inr full ↦
      let less : length (without (falling_by f h w) h.members) < length h.members =
      room-full f h w (last_among (scores_of f (enlarged h w)) (scores_of f (enlarged h w))) is stay (falling-last f h w full) refl in
      omega (arith, less, is.room)
]

-- ---- the hill after it

without-stand : (h : Hill) (fallen : Option ℕ) → IsHill h → All (MayStand h.settings h.counter) (without fallen h.members)
without-stand h fallen is =
    All-from-In (MayStand h.settings h.counter) (without fallen h.members) (λ m here. All-In (MayStand h.settings h.counter) h.members m is.members (without-In fallen h.members m here))

stand-older : (s : RawSettings) (counter : ℕ) (m : Member) → MayStand s counter m → MayStand s (counter + 1) (older m)
stand-older s counter m may = record { entry = omega (arith, may.entry); age = omega (arith, may.entry, may.age); fits = may.fits }

pub ages-fit : (h : Hill) (fallen : Option ℕ) (limit : ℕ) → IsHill h → h.counter + 1 < limit → All (λ m. m.age + 1 < limit) (without fallen h.members)
ages-fit h fallen limit is fits =
    All-from-In (λ m. m.age + 1 < limit) (without fallen h.members) (λ m here.
    let may : MayStand h.settings h.counter m = All-In (MayStand h.settings h.counter) h.members m is.members (without-In fallen h.members m here) in
    omega (arith, may.age, fits))

pub IsHill-after_stay : (f : Results) (h : Hill) (w : WarriorParts) → IsHill h → Fits h.settings w → stays_by f h w ≡ true → IsHill (after_stay h w (falling_by f h w))
IsHill-after_stay f h w is fits stay = record {
  settings = is.settings;
  room = omega (arith, length_push (one_older left) (challenger h w), one_older-length left, room-left f h w is stay);
  rising = RiseFrom-push 0 (one_older left) (challenger h w) (one_older-rising 0 left (without-rising (falling_by f h w) 0 h.members is.rising)) (omega (arith, most));
  members = All-push (MayStand h.settings (h.counter + 1)) (one_older left) (challenger h w) stand own;
}
  where
    left : List Member
    left = without (falling_by f h w) h.members

    entries : All (λ m. m.entry ≤ h.counter) (one_older left)
    entries = one_older-all (MayStand h.settings h.counter) (λ m. m.entry ≤ h.counter) left (λ m may. may.entry) (without-stand h (falling_by f h w) is)

    most : last_entry (one_older left) ≤ h.counter
    most = last_entry_from-most 0 h.counter (one_older left) (omega arith) (λ m here. All-In (λ y. y.entry ≤ h.counter) (one_older left) m entries here)

    stand : All (MayStand h.settings (h.counter + 1)) (one_older left)
    stand = one_older-all (MayStand h.settings h.counter) (MayStand h.settings (h.counter + 1)) left (λ m may. stand-older h.settings h.counter m may) (without-stand h (falling_by f h w) is)

    own : MayStand h.settings (h.counter + 1) (challenger h w)
    own = record { entry = omega arith; age = omega arith; fits = fits }
