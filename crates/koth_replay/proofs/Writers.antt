-- The last change of a cell, and whose instruction was loaded there, for `last_change` and `writer`.
use Rattle.std.proofs.Common.{◌≡◌, ◌≢◌, ℕ, zero, suc, ◌+◌, ◌-◌, ◌<◌, ◌≤◌, nat_lt, Bool, true, false, if◌then◌else◌, List, [], ◌∷◌, length, Option, Some, None, slice_get, inl, inr}
use Rattle.{std.proofs.{Common.{refl, sym, ap, subst, ◌∙◌, arith}, lemmas.Bool.{both_ways, cases_lt}, lemmas.Bool.Decides.nat_tests}, war_types.specs.{declared.instr.Instr.Instr, declared.instr.Modifier.Modifier}}
use Rattle.mars_core.specs.{declared.round.Side.Side, Cells.{blank, cell}, Effect.are_equal, Round.{Round, is_over, after_turn, after_turns}}
use Rattle.{mars_core.proofs.Turns.after_turns-over, koth_replay.proofs.{Drawing.are_equal-same, Histories.one_more, Untold.same_instruction}}
use Rattle.koth_replay.specs.{declared.ending.Change.Change, declared.story.Writer.Writer, Story.{round_before, IsKept, IsUntouched, IsWriter}, Ending.{writer_of, IsChange}}

-- nothing is loaded past the end of a core
pub not-found : (core : List Instr) (at : ℕ) → slice_get core at ≡ None → blank ≡ cell core at
not-found [] at e = refl
not-found (i ∷ core) zero e = cc
not-found (i ∷ core) (suc at) e = not-found core at e

-- ---- a round that is on after some turns was on before

on-start : (over : Bool) (n : ℕ) (r : Round) → is_over r ≡ over → is_over (after_turns n r) ≡ false → is_over r ≡ false
on-start false n r e on = e
on-start true n r e on = sym (ap is_over (after_turns-over n r e)) ∙ on

pub on-before : (m n : ℕ) (r : Round) → m ≤ n → is_over (after_turns n r) ≡ false → is_over (after_turns m r) ≡ false
unfolding after_turns
on-before zero n r within on = on-start (is_over r) n r refl on
on-before (suc m) zero r within on = absurd (omega (arith, within))
on-before (suc m) (suc n) r within on = on-before m n (after_turn r) (omega (arith, within)) on

-- ---- one turn more

-- the round after turn n
pub turn_more : (start now next : Round) (n : ℕ) → 1 ≤ n → now ≡ round_before n start → next ≡ after_turn now → next ≡ after_turns n start
turn_more start now next n least now_is next_is =
    let same : n - 1 + 1 ≡ n = omega (arith, least) in
    one_more start now next (n - 1) now_is next_is ∙ ap (λ k. after_turns k start) same

module _ (start now next : Round) (at n : ℕ) (least : 1 ≤ n) (now_is : now ≡ round_before n start) (next_is : next ≡ after_turn now) where
  cell_before : cell now.core at ≡ cell (round_before n start).core at
  cell_before = ap (λ (r : Round). cell r.core at) now_is

  cell_after : cell next.core at ≡ cell (after_turns n start).core at
  cell_after = ap (λ (r : Round). cell r.core at) (turn_more start now next n least now_is next_is)

  kept-now : cell now.core at ≡ cell next.core at → (k : ℕ) → k ≡ n → IsKept start at k
  kept-now same k is = subst (λ (m : ℕ). IsKept start at m) (sym is) (sym cell_after ∙ sym same ∙ cell_before)

  -- the numbers from one on to n are those before n, and n
  kept-to : (from : ℕ) → ((k : ℕ) → from ≤ k → k < n → IsKept start at k) → cell now.core at ≡ cell next.core at → (k : ℕ) → from ≤ k → k < n + 1 → IsKept start at k
  kept-to from earlier same k past below = elim (cases_lt k n) [
    | inl before ↦ earlier k past before
    | inr above ↦ (let is : k ≡ n = omega (arith, above, below) in kept-now same k is)
  ]

  still : (found : Option Change) → cell now.core at ≡ cell next.core at → IsChange start at n found → IsChange start at (n + 1) found
  still None same untouched = kept-to 1 untouched same
  still (Some change) same was = record {
    least = was.least;
    earlier = omega (arith, was.earlier);
    moves = was.moves;
    changes = was.changes;
    last = λ k after below.
        kept-to (change.turn + 1) (λ j past before. was.last j (omega (arith, past)) before) same k (omega (arith, after)) below;
  }

  anew : (this : Change) → this.turn ≡ n → this.side ≡ now.to_move → cell now.core at ≢ cell next.core at → IsChange start at (n + 1) (Some this)
  anew this turn_is side_is differs = record {
    least = omega (arith, least, turn_is);
    earlier = omega (arith, turn_is);
    moves = side_is ∙ ap (λ (r : Round). r.to_move) now_is ∙ ap (λ k. (round_before k start).to_move) (sym turn_is);
    changes = subst (λ (k : ℕ). cell (after_turns k start).core at ≢ cell (round_before k start).core at) (sym turn_is)
        (λ e. differs (cell_before ∙ sym e ∙ sym cell_after));
    last = λ k after below. absurd (omega (arith, after, below, turn_is));
  }

  by_test : (same : Bool) (earlier found : Option Change) (this : Change) → are_equal Modifier.I (cell now.core at) (cell next.core at) ≡ same → this.turn ≡ n → this.side ≡ now.to_move
      → found ≡ (if same then earlier else Some this) → IsChange start at n earlier → IsChange start at (n + 1) found
  by_test true earlier found this e turn_is side_is found_is was =
      subst (IsChange start at (n + 1)) (sym found_is) (still earlier (are_equal-same (cell now.core at) (cell next.core at) e) was)
  by_test false earlier found this e turn_is side_is found_is was =
      subst (IsChange start at (n + 1)) (sym found_is) (anew this turn_is side_is (λ equal.
      both_ways (are_equal Modifier.I (cell now.core at) (cell next.core at)) e
      (ap (are_equal Modifier.I (cell now.core at)) (sym equal) ∙ same_instruction (cell now.core at))))

-- the last change of the turns before turn n, and of turn n
pub change-next : (start now next : Round) (at n : ℕ) (earlier found : Option Change) (this : Change) → 1 ≤ n → now ≡ round_before n start → next ≡ after_turn now → this.turn ≡ n → this.side ≡ now.to_move
    → found ≡ (if are_equal Modifier.I (cell now.core at) (cell next.core at) then earlier else Some this) → IsChange start at n earlier → IsChange start at (n + 1) found
change-next start now next at n earlier found this least now_is next_is turn_is side_is found_is was =
    by_test start now next at n least now_is next_is (are_equal Modifier.I (cell now.core at) (cell next.core at)) earlier found this refl turn_is side_is found_is was

-- before the first turn nothing was changed
pub untouched-first : (start : Round) (at : ℕ) → IsUntouched start at 1
untouched-first start at = λ n least below. absurd (omega (arith, least, below))

-- ---- who wrote it

loaded : (b c d : Bool) (start : Round) (older younger : List Instr) (position at before : ℕ) (w : Writer) → nat_lt at (length older) ≡ b → nat_lt at position ≡ c → nat_lt (at - position) (length younger) ≡ d
    → w ≡ (if b then Writer.Loaded Side.First else if c then Writer.Nobody else if d then Writer.Loaded Side.Second else Writer.Nobody) → IsUntouched start at before → IsWriter start older younger position at before w
loaded true c d start older younger position at before w b_is c_is d_is is untouched =
    let low : at < length older = grind (arith, nat_tests, b_is) in
    subst (IsWriter start older younger position at before) (sym is) (untouched, low)
loaded false true d start older younger position at before w b_is c_is d_is is untouched =
    let past : length older ≤ at = grind (arith, nat_tests, b_is) in
    let low : at < position = grind (arith, nat_tests, c_is) in
    subst (IsWriter start older younger position at before) (sym is) (untouched, past, inl low)
loaded false false true start older younger position at before w b_is c_is d_is is untouched =
    let past : position ≤ at = grind (arith, nat_tests, c_is) in
    let low : at - position < length younger = grind (arith, nat_tests, d_is) in
    let below : at < position + length younger = omega (arith, past, low) in
    subst (IsWriter start older younger position at before) (sym is) (untouched, past, below)
loaded false false false start older younger position at before w b_is c_is d_is is untouched =
    let past : length older ≤ at = grind (arith, nat_tests, b_is) in
    let behind : position ≤ at = grind (arith, nat_tests, c_is) in
    let high : length younger ≤ at - position = grind (arith, nat_tests, d_is) in
    let above : position + length younger ≤ at = omega (arith, behind, high) in
    subst (IsWriter start older younger position at before) (sym is) (untouched, past, inr above)

pub writer-is : (start : Round) (older younger : List Instr) (position at before : ℕ) (change : Option Change) (w : Writer) → w ≡ writer_of change (length older) position (length younger) at
    → IsChange start at before change → IsWriter start older younger position at before w
writer-is start older younger position at before None w is untouched =
    loaded (nat_lt at (length older)) (nat_lt at position) (nat_lt (at - position) (length younger)) start older younger position at before w refl refl refl is untouched
writer-is start older younger position at before (Some change) w is was = subst (IsWriter start older younger position at before) (sym is) was
