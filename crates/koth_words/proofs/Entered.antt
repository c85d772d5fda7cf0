-- Which subcommand a parse without fault enters.
use Rattle.std.proofs.Common.{◌≡◌, ◌&&◌, ℕ, Bool, true, false, not, List, [], ◌∷◌, Option, None, Some, IfSome, if◌then◌else◌, refl, sym, subst}
use Rattle.{std.specs.{List.{fold, list_any}, Str.bytes_eq}, clap.specs.{Facts.explicit_source, Faults.{defaults_fault, level_fault, settle_fault, turn_fault, walk_fault, word_fault}}}
use Rattle.clap.specs.{Kinds.{Kinds, check_kinds, or_else}, Lexer.{long_of, short_of}, Simple.Shape, Takes.is_given}
use Rattle.clap.specs.Walk.{Held, Names, Outcome, Row, Rule, Step, Text, Waiting, Walk, after_flag, after_step, arg_by_index, done, finished, idle, long_or_other, next, nothing_held, option}
use Rattle.clap.specs.Walk.{plain, plain_word, positional, refused, settled, short_or_plain, subcommand, subcommand_met, subcommand_or_other, to_positional, trailing, value, waits, walk}
use Rattle.clap.specs.Walk.{walk_from, walked, word_met}

-- the name of the subcommand that a step enters
abbrev name_in : Step → Option Text
name_in (subcommand name) = Some name
name_in _ = None

-- ---- a word that names no subcommand enters none

plain_enters : (c : List Rule) (waiting : Waiting) (word : Text) (h : Held) → name_in (plain_word c waiting word h).1 ≡ None
plain_enters c idle word h = refl
plain_enters c (option id) word h = refl
plain_enters c positional word h = refl

flag_enters : (c : List Rule) (waiting : Waiting) (word : Text) (h : Held) (o : Outcome) → name_in (after_flag c waiting word h o).1 ≡ None
flag_enters c waiting word h done = refl
flag_enters c waiting word h (waits id) = refl
flag_enters c waiting word h plain = plain_enters c waiting word h
flag_enters c waiting word h refused = plain_enters c waiting word h

short_enters : (c : List Rule) (waiting : Waiting) (word : Text) (flags : Option Text) (h : Held) → name_in (short_or_plain c waiting word flags h).1 ≡ None
short_enters c waiting word None h = plain_enters c waiting word h
short_enters c waiting word (Some flags) h = flag_enters c waiting word _ _

long_enters : (c : List Rule) (waiting : Waiting) (word : Text) (name : Option (Text × Option Text)) (h : Held)
    → name_in (long_or_other c waiting word name h).1 ≡ None
long_enters c waiting word None h = short_enters c waiting word (short_of word) h
long_enters c waiting word (Some p) h = flag_enters c waiting word _ _

other_enters : (b : Bool) (h : Held) (position : ℕ) (r : Held × Step) → name_in r.1 ≡ None → name_in (if b then (h, trailing position) else r).1 ≡ None
other_enters true h position r e = refl
other_enters false h position r e = e

met_enters : (c : List Rule) (met : Option Text) (waiting : Waiting) (position : ℕ) (word : Text) (h : Held)
    → name_in (subcommand_or_other c met waiting position word h).1 ≡ met
met_enters c (Some name) waiting position word h = refl
met_enters c None waiting position word h =
    other_enters (bytes_eq word (45 ∷ 45 ∷ [])) h position (long_or_other c waiting word (long_of word) h) (long_enters c waiting word (long_of word) h)

-- ---- where a walk stops

abbrev IsMet : (Text → Type 0) → Option (Text × List Text) → Type 0
IsMet P stop = IfSome stop (λ p. P p.0)

stops_positional : (c : List Rule) (P : Text → Type 0) (a : Option Rule) (word : Text) (w : Walk) (h : Held)
    → IsMet P w.stopped → IsMet P (to_positional c a word w h).stopped
stops_positional c P None word w h met = met
stops_positional c P (Some a) word w h met = tt

stops_step : (c : List Rule) (P : Text → Type 0) (word : Text) (w : Walk) (h : Held) (step : Step)
    → IsMet P w.stopped → IfSome (name_in step) P → IsMet P (after_step c word w h step).stopped
stops_step c P word w h (next waiting) met new = met
stops_step c P word w h (trailing position) met new = met
stops_step c P word w h (subcommand name) met new = new
stops_step c P word w h value met new = stops_positional c P (arg_by_index c w.position) word w h met

-- ---- what has no fault

none_first : (a b : Kinds) → or_else a b ≡ [] → a ≡ []
none_first [] b e = refl
none_first (k ∷ ks) b e = e

none_second : (a b : Kinds) → or_else a b ≡ [] → b ≡ []
none_second [] b e = e
none_second (k ∷ ks) b e = absurd (cc)

-- the walk of a level without fault has none, and such a level has the subcommand that it wants
pub level_walks : (s : Shape) (names : Names) (words : List Text) (has : Bool) (below : Kinds)
    → level_fault s names nothing_held words has below ≡ [] → walk_fault s names (walk_from nothing_held) words ≡ []
level_walks s names words has below none = none_first (walk_fault s names (walk_from nothing_held) words) _ none

pub level_has : (s : Shape) (names : Names) (words : List Text) (has : Bool) (below : Kinds) → s.subcommand_required ≡ true
    → level_fault s names nothing_held words has below ≡ [] → has ≡ true
level_has s names words has below is none =
    let end = (walk s.rules names nothing_held words).held in
    let rows = finished s.rules end in
    let after_walk = none_second (walk_fault s names (walk_from nothing_held) words) _ none in
    let after_settling = none_second (settle_fault s.rules s.args_override_self end) _ (none_second below _ after_walk) in
    wants (s.arg_required_else_help && not (list_any (λ (r : Row). explicit_source r.source) rows)) s.subcommand_required has
    (not (s.subcommand_negates_reqs && has) && list_any (λ (a : Rule). a.required && not (is_given a.id rows)) s.rules)
    is (none_second (defaults_fault (settled s.rules end).rows s.rules) _ after_settling)
  where
    wants : (help required has other : Bool) → required ≡ true → check_kinds (not has && help) (not has && required) other ≡ [] → has ≡ true
    wants help required true other is none = refl
    wants true required false other is none = absurd (cc)
    wants false true false other is none = absurd (cc)
    wants false false false other is none = absurd (cc)

-- P holds of each subcommand that a word may name without fault
abbrev pub OnNames : Shape → Names → (Text → Type 0) → Type 0
OnNames s names P = (waiting : Waiting) (word : Text) (h : Held) → word_fault s names false waiting word h ≡ [] → IfSome (subcommand_met names waiting word) P

module _ (s : Shape) (names : Names) (P : Text → Type 0) (each : OnNames s names P) where
  word_enters : (is_trailing : Bool) (waiting : Waiting) (position : ℕ) (word : Text) (h : Held)
      → word_fault s names is_trailing waiting word h ≡ [] → IfSome (name_in (word_met s.rules names is_trailing waiting position word h).1) P
  word_enters true waiting position word h none = tt
  word_enters false waiting position word h none =
      subst (λ o. IfSome o P) (sym (met_enters s.rules (subcommand_met names waiting word) waiting position word h)) (each waiting word h none)

  turn_stops : (held : Held) (waiting : Waiting) (position : ℕ) (is_trailing : Bool) (stop : Option (Text × List Text)) (word : Text)
      → let w : Walk = record { held = held; waiting = waiting; position = position; is_trailing = is_trailing; stopped = stop } in
      turn_fault s names w word ≡ [] → IsMet P stop → IsMet P (walked s.rules names w word).stopped
  unfolding walked
  turn_stops held waiting position is_trailing (Some p) word none met = met
  turn_stops held waiting position is_trailing None word none met =
      stops_step s.rules P word _ _ _ tt (word_enters is_trailing waiting position word held (none_first _ _ none))

  -- a walk without fault stops at such a subcommand, or at none
  pub walk_stops : (words : List Text) (w : Walk) → walk_fault s names w words ≡ [] → IsMet P w.stopped → IsMet P (fold (walked s.rules names) w words).stopped
  unfolding walk_fault
  walk_stops [] w none met = met
  walk_stops (word ∷ words) w none met =
      walk_stops words (walked s.rules names w word) (none_second (turn_fault s names w word) _ none)
      (turn_stops w.held w.waiting w.position w.is_trailing w.stopped word (none_first _ _ none) met)
