-- Whether there was a turn, what turns keep, and the end of a round.
use Rattle.std.proofs.Common.{◌≡◌, ℕ, zero, suc, ◌+◌, ◌*◌, ◌<◌, ◌≤◌, min, nat_lt, not, Bool, true, false, if◌then◌else◌, List, [], ◌∷◌, slice_get, slice_index, Option, Some, inl, inr, refl}
use Rattle.{std.proofs.{Common.{sym, ap, subst, ◌∙◌, zero-add, arith}, lemmas.Bool.{both_ways, cases_lt}, lemmas.Bool.Decides.nat_tests}, war_types.specs.declared.instr.Instr.Instr}
use Rattle.mars_core.specs.{declared.round.Side.Side, declared.round.Turned.Turned, Operand.Reach}
use Rattle.mars_core.specs.Round.{Round, executed, is_empty, is_over, queue_of, side_turn, turn_of, turned, turned_by, after_side, after_turn, after_turns}
use Rattle.{mars_core.proofs.Turns.{after_turn-over, after_turns-over, after_turns-end}, koth_replay.proofs.Drawing.queue_lives}

-- ---- whether there was a turn

abbrev pub was_over : Turned → Bool
was_over Turned.Over = true
was_over Turned.Died = false
was_over Turned.Went = false

queued-on : (queued : List ℕ) → was_over (turned_by queued) ≡ false
queued-on [] = refl
queued-on (x ∷ xs) = refl

side-on : (reach : Reach) (limit : ℕ) (core : List Instr) (queue : List ℕ) → is_empty queue ≡ false → was_over (side_turn reach limit core queue).turned ≡ false
unfolding side_turn
side-on reach limit core [] lives = cc
side-on reach limit core (pc ∷ rest) lives = queued-on (executed reach core pc).queued

either-over : (over : Bool) (t : Turned) → (over ≡ false → was_over t ≡ false) → was_over (if over then Turned.Over else t) ≡ over
either-over true t on = refl
either-over false t on = on refl

-- a turn answers that the round was over, and only if it was
pub over-told : (r : Round) → was_over (turned r) ≡ is_over r
unfolding turned
over-told r =
    either-over (is_over r) (turn_of r).turned
    (λ on. side-on _ r.settings.processes r.core (queue_of r.to_move r) (queue_lives r.to_move r on))

-- how it answers by what the turn told
pub goes_on-told : (t : Turned) (r : Round) (b : Bool) → t ≡ turned r → b ≡ not (was_over t) → b ≡ not (is_over r)
goes_on-told t r b is e = e ∙ ap (λ t. not (was_over t)) is ∙ ap not (over-told r)

-- if there was none, the round stays as it is
pub stays-over : (r next : Round) → is_over r ≡ true → next ≡ after_turn r → next ≡ r
stays-over r next o is = is ∙ sym (after_turn-over r true (sym o) refl)

-- ---- the front of a queue

front-some : (queue : List ℕ) → is_empty queue ≡ false → slice_get queue 0 ≡ Some (slice_index queue 0)
front-some [] lives = cc
front-some (x ∷ xs) lives = refl

pub front-found : (m : Side) (r : Round) (front : Option ℕ) → m ≡ r.to_move → is_over r ≡ false → front ≡ slice_get (queue_of m r) 0 → front ≡ Some (slice_index (queue_of m r) 0)
front-found m r front is o e = e ∙ front-some (queue_of m r) (queue_lives m r o)

-- ---- what turns keep

after_side-kept : (m : Side) (core : List Instr) (queue : List ℕ) (r : Round) →
    ((after_side m core queue r).settings ≡ r.settings) × ((after_side m core queue r).used ≡ r.used + 1)
after_side-kept Side.First core queue r = (refl, refl)
after_side-kept Side.Second core queue r = (refl, refl)

-- a turn uses one
pub after_turn-used : (r : Round) → is_over r ≡ false → (after_turn r).used ≡ r.used + 1
unfolding after_turn
after_turn-used r o = rw o (after_side-kept r.to_move (turn_of r).core (turn_of r).queue r).1

either-used : (over : Bool) (r next : Round) → next.used ≡ r.used + 1 → r.used ≤ (if over then r else next).used
either-used true r next e = omega arith
either-used false r next e = omega arith

used-no_less : (r : Round) → r.used ≤ (after_turn r).used
unfolding after_turn
used-no_less r = either-used (is_over r) r _ (after_side-kept r.to_move (turn_of r).core (turn_of r).queue r).1

pub used-grows : (n : ℕ) (r : Round) → r.used ≤ (after_turns n r).used
unfolding after_turns
used-grows zero r = omega arith
used-grows (suc n) r = omega (arith, used-no_less r, used-grows n (after_turn r))

-- ---- turns after turns

pub after_turns-next : (n : ℕ) (r : Round) → after_turns (suc n) r ≡ after_turn (after_turns n r)
unfolding after_turns
after_turns-next zero r = refl
after_turns-next (suc n) r = after_turns-next n (after_turn r)

after_turns-add : (n m : ℕ) (r : Round) → after_turns m (after_turns n r) ≡ after_turns (n + m) r
unfolding after_turns
after_turns-add zero m r = ap (λ k. after_turns k r) (sym (zero-add m))
after_turns-add (suc n) m r =
    let sum : suc (n + m) ≡ suc n + m = omega arith in
    after_turns-add n m (after_turn r) ∙ ap (λ k. after_turns k r) sum

-- two numbers of turns after which it is over leave the same
same_end : (m n : ℕ) (r : Round) → is_over (after_turns m r) ≡ true → is_over (after_turns n r) ≡ true → after_turns m r ≡ after_turns n r
unfolding after_turns
same_end zero zero r a b = refl
same_end zero (suc n) r a b = sym (after_turns-over (suc n) r a)
same_end (suc m) zero r a b = after_turns-over (suc m) r b
same_end (suc m) (suc n) r a b = same_end m n (after_turn r) a b

-- the round once it is over
abbrev pub end_of : Round → Round
end_of r = after_turns (2 * r.settings.cycles) r

end-over : (r : Round) → is_over (end_of r) ≡ true
end-over r = after_turns-end (2 * r.settings.cycles) r (omega arith)

-- a round that is over after some turns is the one at the end
pub ends-there : (start now : Round) (n : ℕ) → now ≡ after_turns n start → is_over now ≡ true → now ≡ end_of start
ends-there start now n is o = is ∙ same_end n (2 * start.settings.cycles) start (ap is_over (sym is) ∙ o) (end-over start)

-- a turn and those that are played after it lead there too
pub plays-there : (start now next last : Round) (n m : ℕ) → now ≡ after_turns n start → next ≡ after_turn now → last ≡ after_turns m next → is_over last ≡ true → last ≡ end_of start
plays-there start now next last n m now_is next_is last_is o =
    let all : last ≡ after_turns (suc n + m) start =
    last_is ∙ ap (after_turns m) (next_is ∙ ap after_turn now_is ∙ sym (after_turns-next n start)) ∙ after_turns-add (suc n) m start in
    ends-there start last (suc n + m) all o

-- ---- how many turns are kept

-- the number of turns that are kept, `most` of all at most, and whether there are more
pub record IsCount (most kept total : ℕ) (more : Bool) : Type 0 where
  pub count : kept ≡ min most total
  pub cut : more ≡ nat_lt most total

counted : (over : Bool) (most kept total : ℕ) → kept ≤ most → (over ≡ true → total ≡ kept) → (over ≡ false → (most ≤ kept) × (kept < total)) → IsCount most kept total (not over)
counted true most kept total within all more =
    let same = all refl in
    record { count = omega (arith, same); cut = grind (arith, nat_tests, same) }
counted false most kept total within all more =
    let those = more refl in
    record { count = omega (arith, those.0, those.1); cut = grind (arith, nat_tests, those.0, those.1) }

at_most : (n most : ℕ) (over : Bool) → (n < most → over ≡ true) → over ≡ false → most ≤ n
at_most n most over ends on = elim (cases_lt n most) [ inl below ↦ absurd (both_ways over on (ends below)) | inr above ↦ above ]

-- the turns kept are all that the round has, or as many as are kept at most
pub turns-counted : (start now next last : Round) (most n m : ℕ) (more : Bool) → start.used ≡ 0 → now ≡ after_turns n start → now.used ≡ start.used + n → n ≤ most → (n < most → is_over now ≡ true)
    → more ≡ not (is_over now) → next ≡ after_turn now → last ≡ after_turns m next → is_over last ≡ true → IsCount most n (end_of start).used more
turns-counted start now next last most n m more none now_is used within over more_is next_is last_is ended =
    let end_is : last ≡ end_of start = plays-there start now next last n m now_is next_is last_is ended in
    let total = (end_of start).used in
    let all : is_over now ≡ true → total ≡ n =
    λ o. let there : now.used ≡ total = ap (λ (r : Round). r.used) (ends-there start now n now_is o) in omega (arith, there) in
    let some : is_over now ≡ false → (most ≤ n) × (n < total) =
    λ o.
    let long : most ≤ n = at_most n most (is_over now) over o in
    let step : next.used ≡ now.used + 1 = ap (λ (r : Round). r.used) next_is ∙ after_turn-used now o in
    let rest : next.used ≤ last.used = subst (λ (r : Round). next.used ≤ r.used) (sym last_is) (used-grows m next) in
    let there : last.used ≡ total = ap (λ (r : Round). r.used) end_is in
    (long, omega (arith, step, rest, there)) in
    subst (IsCount most n total) (sym more_is) (counted (is_over now) most n total within all some)
