-- The last turn of a round, and the side that it lost it for, for `last_turn` and `story_of`.
use Rattle.std.proofs.Common.{◌≡◌, ◌⊎◌, ℕ, zero, suc, ◌+◌, ◌-◌, ◌≤◌, ◌==◌, ◌||◌, not, Bool, true, false, if◌then◌else◌, List, [], ◌∷◌, length, MatchOption, Option, Some, None, slice_get, slice_index, inl, inr}
use Rattle.{std.proofs.{Common.{refl, sym, ap, subst, ◌∙◌, eqb-true, arith}, lemmas.Bool.{both_ways, or_parts}}, war_types.specs.{declared.instr.Instr.Instr, declared.settings.RawSettings.RawSettings, Warrior.WarriorParts}}
use Rattle.mars_core.specs.{declared.round.Side.Side, declared.round.Outcome.Outcome, Operand.Reach, Cells.cell}
use Rattle.mars_core.specs.Round.{Round, is_empty, is_over, queue_of, reach_of, side_turn, turn_of, after_side, after_turn, after_turns, outcome, outcome_of, IsRound}
use Rattle.{mars_core.proofs.Turns.both_sides_live, koth_match.specs.{Match.round_outcome, Seeds.{position, seed_of_round}}, koth_match.proofs.Kept.after_turns-settings}
use Rattle.koth_replay.proofs.{Drawing.after_turn-goes, Endings.{after_turn-used, front-found}}
use Rattle.koth_replay.specs.{declared.ending.Made.Made, declared.story.{Story.Story, Writer.Writer}, Replay.begun, Story.{end_of, lost_by, round_before, IsFall, IsStory, IsWriter}}
use Rattle.koth_replay.specs.Ending.{fall_of, told, IsFront, IsMade}

-- ---- the turn that is made

no-front : (m : Side) (r : Round) → m ≡ r.to_move → is_over r ≡ false → slice_get (queue_of m r) 0 ≡ None → ⊥
no-front m r is on none =
    let found : None ≡ Some (slice_index (queue_of m r) 0) = front-found m r None is on (sym none) in
    cc

-- whether there was a turn, and its front process
abbrev IsNext : Side → Round → ℕ → Option Made → Type 0
IsNext m r n found = MatchOption found (is_over r ≡ true) (λ made. (is_over r ≡ false) × IsFront m r n made)

by_over : (over : Bool) (front found : Option Made) (m : Side) (r : Round) (n : ℕ) → is_over r ≡ over → m ≡ r.to_move → MatchOption front (slice_get (queue_of m r) 0 ≡ None) (IsFront m r n)
    → found ≡ (if not over then front else None) → IsNext m r n found
by_over true front found m r n over_is is stands found_is = subst (IsNext m r n) (sym found_is) over_is
by_over false None found m r n on is stands found_is = absurd (no-front m r is on stands)
by_over false (Some made) found m r n on is stands found_is = subst (IsNext m r n) (sym found_is) (on, stands)

pub next-made : (went : Bool) (front found : Option Made) (m : Side) (r : Round) (n : ℕ) → went ≡ not (is_over r) → m ≡ r.to_move → MatchOption front (slice_get (queue_of m r) 0 ≡ None) (IsFront m r n)
    → found ≡ (if went then front else None) → MatchOption found (is_over r ≡ true) (λ made. (is_over r ≡ false) × IsFront m r n made)
next-made went front found m r n went_is is stands found_is =
    by_over (is_over r) front found m r n refl is stands (found_is ∙ ap (λ w. if w then front else None) went_is)

pub made-next : (start now next : Round) (made : Made) (n : ℕ) (m : Side) → now ≡ after_turns n start → now.used ≡ n → next ≡ after_turn now → m ≡ now.to_move → is_over now ≡ false → IsFront m now (n + 1) made
    → IsMade start next made
made-next start now next made n m now_is used next_is mover on stands =
    let back : made.turn - 1 ≡ n = omega (arith, stands.turn) in
    let here : now ≡ round_before made.turn start = now_is ∙ ap (λ k. after_turns k start) (sym back) in
    let once : next.used ≡ now.used + 1 = ap (λ (r : Round). r.used) next_is ∙ after_turn-used now on in
    record {
      turn = omega (arith, stands.turn, once, used);
      least = omega (arith, stands.turn);
      on = ap is_over (sym here) ∙ on;
      leads = next_is ∙ ap after_turn here;
      mover = stands.side ∙ mover ∙ ap (λ (r : Round). r.to_move) here;
      front = subst (λ (r : Round). slice_get (queue_of made.side r) 0 ≡ Some made.at) here stands.front;
      instr = subst (λ (r : Round). cell r.core made.at ≡ made.instr) here stands.instr;
    }

-- a round that stays as it is
pub made-there : (start now next : Round) (last : Option Made) → next ≡ now → MatchOption last (now ≡ start) (IsMade start now) → MatchOption last (next ≡ start) (IsMade start next)
made-there start now next last same was = subst (λ (r : Round). MatchOption last (r ≡ start) (IsMade start r)) (sym same) was

-- ---- the side that lost

empty-of : (queue : List ℕ) → length queue ≡ 0 → is_empty queue ≡ true
empty-of [] e = refl
empty-of (x ∷ xs) e = absurd (omega (arith, e))

-- a turn that leaves a queue empty had one process there
emptied : (reach : Reach) (limit : ℕ) (core : List Instr) (queue : List ℕ) (at : ℕ) → 1 ≤ limit → slice_get queue 0 ≡ Some at → length (side_turn reach limit core queue).queue ≡ 0 → queue ≡ at ∷ []
unfolding side_turn
emptied reach limit core [] at least found e = cc
emptied reach zero core (pc ∷ rest) at least found e = absurd (omega (arith, least))
emptied reach (suc limit) core (pc ∷ []) at least found e = cc
emptied reach (suc limit) core (pc ∷ x ∷ rest) at least found e = absurd (omega (arith, e))

-- the side whose turn it was has none left, and the other one has
lost-side : (m : Side) (now : Round) (core : List Instr) (queue : List ℕ) → is_over now ≡ false
    → (length (after_side m core queue now).first ≡ 0) ⊎ (length (after_side m core queue now).second ≡ 0) → (length queue ≡ 0) × (outcome (after_side m core queue now) ≡ lost_by m)
lost-side Side.First now core queue on (inl e) = (e, rw (empty-of queue e, (both_sides_live now on).1) refl)
lost-side Side.First now core queue on (inr e) = absurd (both_ways (is_empty now.second) (both_sides_live now on).1 (empty-of now.second e))
lost-side Side.Second now core queue on (inl e) = absurd (both_ways (is_empty now.first) (both_sides_live now on).0 (empty-of now.first e))
lost-side Side.Second now core queue on (inr e) = (e, rw (empty-of queue e, (both_sides_live now on).0) refl)

or-true : (p q : Bool) → (p || q) ≡ true → (p ≡ true) ⊎ (q ≡ true)
or-true true q e = inl refl
or-true false q e = inr e

either-none : (a b m n : ℕ) → a ≡ m → b ≡ n → (a == 0 || b == 0) ≡ true → (m ≡ 0) ⊎ (n ≡ 0)
either-none a b m n a_is b_is e = elim (or-true (a == 0) (b == 0) e) [
  | inl first ↦ inl (sym a_is ∙ eqb-true a 0 first)
  | inr second ↦ inr (sym b_is ∙ eqb-true b 0 second)
]

module _ (start last : Round) (made : Made) (a b : ℕ) (round : IsRound start) (is : IsMade start last made) (a_is : a ≡ length last.first) (b_is : b ≡ length last.second) (none : (a == 0 || b == 0) ≡ true) where
  abbrev now : Round
  now = round_before made.turn start

  goes : last ≡ after_side now.to_move (turn_of now).core (turn_of now).queue now
  goes = is.leads ∙ after_turn-goes now is.on

  lost-here : (length (turn_of now).queue ≡ 0) × (outcome (after_side now.to_move (turn_of now).core (turn_of now).queue now) ≡ lost_by now.to_move)
  lost-here =
      lost-side now.to_move now (turn_of now).core (turn_of now).queue is.on
      (subst (λ (r : Round). (length r.first ≡ 0) ⊎ (length r.second ≡ 0)) goes (either-none a b (length last.first) (length last.second) a_is b_is none))

  lost-outcome : outcome last ≡ lost_by made.side
  lost-outcome = ap outcome goes ∙ lost-here.1 ∙ ap lost_by (sym is.mover)

  room : 1 ≤ now.settings.processes
  room = subst (λ (s : RawSettings). 1 ≤ s.processes) (sym (after_turns-settings (made.turn - 1) start)) round.settings.processes_least

  last-process : queue_of made.side now ≡ made.at ∷ []
  last-process =
      ap (λ m. queue_of m now) is.mover
      ∙ emptied (reach_of now.settings) now.settings.processes now.core (queue_of now.to_move now) made.at room
      (subst (λ (m : Side). slice_get (queue_of m now) 0 ≡ Some made.at) is.mover is.front) lost-here.0

  fall-is : (older younger : List Instr) (place : ℕ) (w : Writer) → last ≡ end_of start → IsWriter start older younger place made.at made.turn w → IsFall start older younger place (fall_of made w)
  fall-is older younger place w last_is wrote = record {
    turn = is.turn ∙ ap (λ (r : Round). r.used) last_is;
    least = is.least;
    mover = is.mover;
    process = last-process;
    instr = is.instr;
    writer = wrote;
  }

-- ---- the story

abbrev Ends : RawSettings → WarriorParts → WarriorParts → ℕ → Outcome → Type 0
Ends s older younger r o = outcome (end_of (begun s older younger r)) ≡ o

outcome-is : (s : RawSettings) (older younger : WarriorParts) (r : ℕ) (o : Outcome) → Ends s older younger r o → round_outcome s older younger r ≡ o
unfolding round_outcome
outcome-is s older younger r o e = e

only-some : (is : Bool) (last : Option Made) (made : Made) (found : Option Made) → found ≡ (if is then last else None) → found ≡ Some made → (is ≡ true) × (last ≡ Some made)
only-some true last made found found_is e = (refl, sym found_is ∙ e)
only-some false last made found found_is e = cc

-- the last turn, if it is asked for and there was one
pub made-of : (start last : Round) (is : Bool) (before found : Option Made) (made : Made) → MatchOption before (last ≡ start) (IsMade start last) → found ≡ (if is then before else None) → found ≡ Some made
    → IsMade start last made
made-of start last is before found made was found_is e =
    subst (λ (x : Option Made). MatchOption x (last ≡ start) (IsMade start last)) (only-some is before made found found_is e).1 was

-- a round that was lost
pub story-lost : (s : RawSettings) (older younger : WarriorParts) (r : ℕ) (last : Round) (found before : Option Made) (made : Made) (lost : Bool) (a b : ℕ) (w : Writer) (story : Story)
    → IsRound (begun s older younger r) → last ≡ end_of (begun s older younger r) → MatchOption before (last ≡ begun s older younger r) (IsMade (begun s older younger r) last)
    → a ≡ length last.first → b ≡ length last.second → lost ≡ (a == 0 || b == 0) → found ≡ (if lost then before else None) → found ≡ Some made
    → IsWriter (begun s older younger r) older.code younger.code (position s (seed_of_round s r)) made.at made.turn w → story ≡ told made w → IsStory s older younger r story
story-lost s older younger r last found before made lost a b w story round last_is was a_is b_is lost_is found_is some wrote story_is =
    let start : Round = begun s older younger r in
    let those = only-some lost before made found found_is some in
    let is : IsMade start last made = subst (λ (x : Option Made). MatchOption x (last ≡ start) (IsMade start last)) those.1 was in
    let none = sym lost_is ∙ those.0 in
    let ends : outcome (end_of start) ≡ lost_by made.side = ap outcome (sym last_is) ∙ lost-outcome start last made a b round is a_is b_is none in
    subst (IsStory s older younger r) (sym story_is)
    (outcome-is s older younger r (lost_by made.side) ends, fall-is start last made a b round is a_is b_is none older.code younger.code (position s (seed_of_round s r)) w last_is wrote)

-- neither queue is empty, or no turn was made
both-live : (lost : Bool) (before : Option Made) (start last : Round) (a b : ℕ) → length start.first ≡ 1 → length start.second ≡ 1 → MatchOption before (last ≡ start) (IsMade start last)
    → a ≡ length last.first → b ≡ length last.second → lost ≡ (a == 0 || b == 0) → None ≡ (if lost then before else None) → (a == 0 || b == 0) ≡ false
both-live false before start last a b one other was a_is b_is lost_is none = sym lost_is
both-live true None start last a b one other was a_is b_is lost_is none =
    let first : a ≡ 1 = a_is ∙ ap (λ (r : Round). length r.first) was ∙ one in
    let second : b ≡ 1 = b_is ∙ ap (λ (r : Round). length r.second) was ∙ other in
    rw (first, second) refl
both-live true (Some made) start last a b one other was a_is b_is lost_is none = cc

zero-test : (n : ℕ) → n ≡ 0 → (n == 0) ≡ true
zero-test n e = rw e refl

no-process : (a : ℕ) (b : Bool) → a ≡ 0 → (a == 0 || b) ≡ false → ⊥
no-process a b e none = both_ways (a == 0) (or_parts (a == 0) b none).0 (zero-test a e)

other-process : (a b : ℕ) → b ≡ 0 → (a == 0 || b == 0) ≡ false → ⊥
other-process a b e none = both_ways (b == 0) (or_parts (a == 0) (b == 0) none).1 (zero-test b e)

neither : (a b : ℕ) (first second : List ℕ) → a ≡ length first → b ≡ length second → (a == 0 || b == 0) ≡ false → outcome_of (is_empty first) (is_empty second) ≡ Outcome.Tie
neither a b [] second a_is b_is e = absurd (no-process a (b == 0) a_is e)
neither a b (x ∷ first) [] a_is b_is e = absurd (other-process a b b_is e)
neither a b (x ∷ first) (y ∷ second) a_is b_is e = refl

pub story-tied : (s : RawSettings) (older younger : WarriorParts) (r : ℕ) (last : Round) (found before : Option Made) (lost : Bool) (a b : ℕ)
    → last ≡ end_of (begun s older younger r) → MatchOption before (last ≡ begun s older younger r) (IsMade (begun s older younger r) last)
    → a ≡ length last.first → b ≡ length last.second → lost ≡ (a == 0 || b == 0) → found ≡ (if lost then before else None) → found ≡ None → IsStory s older younger r (Story.Tied a b)
story-tied s older younger r last found before lost a b last_is was a_is b_is lost_is found_is none =
    let start : Round = begun s older younger r in
    let live = both-live lost before start last a b refl refl was a_is b_is lost_is (sym none ∙ found_is) in
    let ends : outcome (end_of start) ≡ Outcome.Tie = ap outcome (sym last_is) ∙ neither a b last.first last.second a_is b_is live in
    (outcome-is s older younger r Outcome.Tie ends, a_is ∙ ap (λ (x : Round). length x.first) last_is, b_is ∙ ap (λ (x : Round). length x.second) last_is)
