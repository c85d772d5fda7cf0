-- What the turns of a pass make of a round.
use Rattle.std.proofs.Common.{◌≡◌, ℕ, ◌+◌, ◌-◌, ◌*◌, ◌<◌, ◌≤◌, suc, Bool, true, false, leb, List, take, ◌++◌, All, Some, refl, sym, subst, ap, ap₂, ◌∙◌, arith}
use Rattle.{war_types.specs.{declared.instr.Instr.Instr, declared.settings.RawSettings.RawSettings}, mars_core.specs.declared.round.Side.Side}
use Rattle.mars_core.specs.{Operand.Reach, Effect.queues, Queue.{Processes, queued, front, behind_front}, Whole.whole}
use Rattle.mars_core.specs.Round.{Round, SideTurn, executed, reach_of, is_empty, is_over, turn_of, turned_by, after_side, side_turn, side_turned, after_turn, after_turns, IsQueue}
use Rattle.mars_core.specs.{Code.other, Passes.{IsTurnMade, round_at, round_after}, Window.left_by}
use Rattle.mars_core.proofs.Turns.{without_front, is_over-no, is_over-first, is_over-second, after_turn-on, side_turn-front, after_turns-suc, after_turns-over, IsQueue-queued}

-- what is executed at the front of a queue, and what is queued after the others
pub turn-made : (size pc : ℕ) (core core' : List Instr) (q q' : Processes) (more : List ℕ) → front q.addresses ≡ Some pc → executed (whole size) core pc ≡ queues core' more → IsQueue size q.limit q.addresses →
    All (λ a. a < size) more → q' ≡ queued (without_front q) more → IsTurnMade size core core' q q'
turn-made size pc core core' q q' more at_front done sound inside is =
    let made : side_turn (whole size) q.limit core q.addresses ≡ side_turned core' (take q.limit (behind_front q.addresses ++ more)) (turned_by more) = side_turn-front (whole size) q.limit pc core core' q.addresses more at_front done in
    record {
      left = ap (λ (t : SideTurn). t.core) made;
      queue = ap (λ (t : SideTurn). t.queue) made ∙ sym (ap (λ (p : Processes). p.addresses) is);
      room = IsQueue-queued size q q' more sound inside is;
      limit = ap (λ (p : Processes). p.limit) is;
    }

-- a process ends: the last one of its side stays until the window is closed
pub left-at-end : (q q' : Processes) (last : Bool) → (last ≡ true → q' ≡ q) → (last ≡ false → q' ≡ without_front q) → left_by last q' ≡ without_front q
left-at-end q q' true kept value = ap without_front (kept refl)
left-at-end q q' false kept value = value refl

pub empty-at-end : (q q' : Processes) (last : Bool) → last ≡ is_empty (behind_front q.addresses) → (last ≡ true → q' ≡ q) → is_empty q'.addresses ≡ false → last ≡ is_empty (left_by last q').addresses
empty-at-end q q' true is kept lives = is ∙ ap (λ (q : Processes). is_empty (behind_front q.addresses)) (sym (kept refl))
empty-at-end q q' false is kept lives = sym lives

-- what a turn left, in its window or after it was closed
pub still-made : (size : ℕ) (core core' : List Instr) (q q' : Processes) (last : Bool) → last ≡ false → IsTurnMade size core core' q (left_by last q') → IsTurnMade size core core' q q'
still-made size core core' q q' true is made = cc
still-made size core core' q q' false is made = made

pub last-made : (size : ℕ) (core core' : List Instr) (q q' closed ended : Processes) (last : Bool) → last ≡ true → closed ≡ q' → ended ≡ without_front closed → last ≡ is_empty (left_by last q').addresses →
    IsTurnMade size core core' q (left_by last q') → IsTurnMade size core core' q ended × (is_empty ended.addresses ≡ true)
last-made size core core' q q' closed ended false l is end none made = cc
last-made size core core' q q' closed ended true l is end none made =
    let same : left_by true q' ≡ ended = sym (end ∙ ap without_front is) in
    (subst (IsTurnMade size core core' q) same made, ap (λ (q : Processes). is_empty q.addresses) (sym same) ∙ sym none)

other-other : (m : Side) → other (other m) ≡ m
other-other Side.First = refl
other-other Side.Second = refl

-- a round without a process of one side
over-mover : (m : Side) (s : RawSettings) (core : List Instr) (x y : List ℕ) (used : ℕ) → is_empty x ≡ true → is_over (round_at m s core x y used) ≡ true
over-mover Side.First s core x y used e = is_over-first (is_empty x) (is_empty y) (leb (2 * s.cycles) used) e
over-mover Side.Second s core x y used e = is_over-second (is_empty y) (is_empty x) (leb (2 * s.cycles) used) e

over-other : (m : Side) (s : RawSettings) (core : List Instr) (x y : List ℕ) (used : ℕ) → is_empty y ≡ true → is_over (round_at m s core x y used) ≡ true
over-other Side.First s core x y used e = is_over-second (is_empty x) (is_empty y) (leb (2 * s.cycles) used) e
over-other Side.Second s core x y used e = is_over-first (is_empty y) (is_empty x) (leb (2 * s.cycles) used) e

-- a turn of a side is a turn of the round
module _ (size : ℕ) (s : RawSettings) (whole_is : reach_of s ≡ whole size) where
  after_turn-at : (m : Side) (used : ℕ) (core core' : List Instr) (q q' o : Processes) → s.processes ≡ q.limit → is_empty q.addresses ≡ false → is_empty o.addresses ≡ false → used < 2 * s.cycles →
      IsTurnMade size core core' q q' → after_turn (round_at m s core q.addresses o.addresses used) ≡ round_at (other m) s core' o.addresses q'.addresses (used + 1)
  after_turn-at Side.First used core core' q q' o limit lives others within made =
      let r : Round = round_at Side.First s core q.addresses o.addresses used in
      let t : turn_of r ≡ side_turn (whole size) q.limit core q.addresses = ap₂ (λ (a : Reach) (b : ℕ). side_turn a b core q.addresses) whole_is limit in
      sym (after_turn-on r (side_turn (whole size) q.limit core q.addresses) (is_over-no (is_empty q.addresses) (is_empty o.addresses) (2 * s.cycles) used lives others within) t)
      ∙ ap₂ (λ (c : List Instr) (x : List ℕ). after_side Side.First c x r) made.left made.queue
  after_turn-at Side.Second used core core' q q' o limit lives others within made =
      let r : Round = round_at Side.Second s core q.addresses o.addresses used in
      let t : turn_of r ≡ side_turn (whole size) q.limit core q.addresses = ap₂ (λ (a : Reach) (b : ℕ). side_turn a b core q.addresses) whole_is limit in
      sym (after_turn-on r (side_turn (whole size) q.limit core q.addresses) (is_over-no (is_empty o.addresses) (is_empty q.addresses) (2 * s.cycles) used others lives within) t)
      ∙ ap₂ (λ (c : List Instr) (x : List ℕ). after_side Side.Second c x r) made.left made.queue

  -- the first turn of a pass
  module _ (m : Side) (used most left : ℕ) (core core1 : List Instr) (q q1 o : Processes) (limit : s.processes ≡ q.limit) (lives : is_empty q.addresses ≡ false) (others : is_empty o.addresses ≡ false)
      (bound : used + 2 * most ≤ 2 * s.cycles) (some : 0 < left) (within : left ≤ most) (one : IsTurnMade size core core1 q q1) where
    first-made : after_turns (suc (2 * (left - 1))) (round_at (other m) s core1 o.addresses q1.addresses (used + (2 * most - 2 * left) + 1))
        ≡ after_turns (2 * left) (round_at m s core q.addresses o.addresses (used + (2 * most - 2 * left)))
    first-made =
        let now : ℕ = used + (2 * most - 2 * left) in
        let fewer : 2 * left ≡ suc (suc (2 * (left - 1))) = omega arith in
        ap (after_turns (suc (2 * (left - 1)))) (sym (after_turn-at m now core core1 q q1 o limit lives others (omega arith) one))
        ∙ after_turns-suc (2 * left) (suc (2 * (left - 1))) (round_at m s core q.addresses o.addresses now) fewer

    -- which takes the last process of its side
    pub pass-first_ends : is_empty q1.addresses ≡ true →
        after_turns (2 * left) (round_at m s core q.addresses o.addresses (used + (2 * most - 2 * left)))
        ≡ round_after true m s core1 q1.addresses o.addresses (used + (2 * most - (2 * (left - 1) + 1)))
    pass-first_ends none =
        let count : used + (2 * most - 2 * left) + 1 ≡ used + (2 * most - (2 * (left - 1) + 1)) = omega arith in
        sym first-made
        ∙ (after_turns-over (suc (2 * (left - 1))) (round_at (other m) s core1 o.addresses q1.addresses (used + (2 * most - 2 * left) + 1)) (over-other (other m) s core1 o.addresses q1.addresses _ none)
        ∙ ap (round_at (other m) s core1 o.addresses q1.addresses) count)

    -- the second turn
    module _ (core2 : List Instr) (o1 : Processes) (limit2 : s.processes ≡ o.limit) (lives2 : is_empty q1.addresses ≡ false) (two : IsTurnMade size core1 core2 o o1) where
      pub pass-made : after_turns (2 * (left - 1)) (round_at m s core2 q1.addresses o1.addresses (used + (2 * most - 2 * (left - 1))))
          ≡ after_turns (2 * left) (round_at m s core q.addresses o.addresses (used + (2 * most - 2 * left)))
      pass-made =
          let now : ℕ = used + (2 * most - 2 * left) in
          let count : used + (2 * most - 2 * (left - 1)) ≡ now + 1 + 1 = omega arith in
          let turn = after_turn-at (other m) (now + 1) core1 core2 o o1 q1 limit2 others lives2 (omega arith) two in
          ap₂ (λ (m' : Side) (n : ℕ). after_turns (2 * (left - 1)) (round_at m' s core2 q1.addresses o1.addresses n)) (sym (other-other m)) count
          ∙ (ap (after_turns (2 * (left - 1))) (sym turn)
          ∙ (after_turns-suc (suc (2 * (left - 1))) (2 * (left - 1)) (round_at (other m) s core1 o.addresses q1.addresses (now + 1)) refl ∙ first-made))

      pub pass-second_ends : is_empty o1.addresses ≡ true →
          after_turns (2 * left) (round_at m s core q.addresses o.addresses (used + (2 * most - 2 * left)))
          ≡ round_after false m s core2 q1.addresses o1.addresses (used + (2 * most - 2 * (left - 1)))
      pass-second_ends none =
          sym pass-made ∙ after_turns-over (2 * (left - 1)) (round_at m s core2 q1.addresses o1.addresses (used + (2 * most - 2 * (left - 1)))) (over-other m s core2 q1.addresses o1.addresses _ none)
