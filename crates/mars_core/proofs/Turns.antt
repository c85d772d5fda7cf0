-- What turns make of a round and of its sides' queues, for `turns` and the arena.
use Rattle.std.proofs.Common.{◌≡◌, ◌≢◌, ℕ, ◌+◌, ◌-◌, ◌*◌, ◌/◌, ◌%◌, ◌<◌, ◌≤◌, suc, zero, Bool, true, false, ◌||◌, leb, List, [], ◌∷◌, ◌++◌, length, take, All, Some, refl, sym, ap, ap₂, ◌∙◌, subst, arith}
use Rattle.std.proofs.{Common.{append-nil, take_all}, lemmas.List.length-take, lemmas.List.Elements.{All-take, All-append, All-tail}, lemmas.Bool.Decides.nat_tests}
use Rattle.war_types.specs.{declared.instr.Instr.Instr, declared.settings.RawSettings.RawSettings}
use Rattle.mars_core.specs.{declared.round.Side.Side, Operand.Reach, Effect.{Effect, queues}, Queue.{Processes, processes, queued, front, behind_front}}
use Rattle.mars_core.specs.Round.{Round, SideTurn, executed, reach_of, is_empty, is_over, turn_of, turned_by, after_side, side_turn, side_turned, after_turn, turned, after_turns, IsQueue}
use Rattle.mars_core.specs.{Arena.round_in, Code.other, declared.round.Turned.Turned}

-- of two queues the one of a side
abbrev pub queue_at : Side → Processes → Processes → Processes
queue_at Side.First first second = first
queue_at Side.Second first second = second

abbrev pub without_front : Processes → Processes
without_front q = processes q.limit (behind_front q.addresses)

-- a side's turn leaves of its own queue the processes after the front one and what is queued after them, and of the other's all
pub record AreQueuesAfter (m : Side) (more : List ℕ) (first second first' second' : Processes) : Type 0 where
  pub own : queue_at m first' second' ≡ queued (without_front (queue_at m first second)) more
  pub others : queue_at (other m) first' second' ≡ queue_at (other m) first second

-- that, with whether its own queue is empty then
abbrev pub Moved : Side → List ℕ → Processes → Processes → Processes → Processes → Bool → Type 0
Moved m more first second first' second' empty = AreQueuesAfter m more first second first' second' × (is_empty (queue_at m first' second').addresses ≡ empty)

pub first_moves : (m : Side) (more : List ℕ) (first second first' second' : Processes) (empty : Bool) → m ≡ Side.First → first' ≡ queued (without_front first) more → second' ≡ second → is_empty first'.addresses ≡ empty →
    Moved m more first second first' second' empty
first_moves m more first second first' second' empty is own others e = subst (λ (m : Side). Moved m more first second first' second' empty) (sym is) (record { own = own; others = others }, e)

pub second_moves : (m : Side) (more : List ℕ) (first second first' second' : Processes) (empty : Bool) → m ≡ Side.Second → second' ≡ queued (without_front second) more → first' ≡ first → is_empty second'.addresses ≡ empty →
    Moved m more first second first' second' empty
second_moves m more first second first' second' empty is own others e = subst (λ (m : Side). Moved m more first second first' second' empty) (sym is) (record { own = own; others = others }, e)

-- the front process of the side to move
pub first_front : (m : Side) (first second : Processes) (pc n : ℕ) → m ≡ Side.First → front first.addresses ≡ Some n → pc ≡ n → front (queue_at m first second).addresses ≡ Some pc
first_front m first second pc n is f e = ap (λ (m : Side). front (queue_at m first second).addresses) is ∙ (f ∙ ap Some (sym e))

pub second_front : (m : Side) (first second : Processes) (pc n : ℕ) → m ≡ Side.Second → front second.addresses ≡ Some n → pc ≡ n → front (queue_at m first second).addresses ≡ Some pc
second_front m first second pc n is f e = ap (λ (m : Side). front (queue_at m first second).addresses) is ∙ (f ∙ ap Some (sym e))

-- the front process is one of the core
pub front_inside : (size limit at : ℕ) (queue : List ℕ) → IsQueue size limit queue → front queue ≡ Some at → at < size
front_inside size limit at [] is found = cc
front_inside size limit at (x ∷ rest) is found =
    let same : x ≡ at = cc in
    subst (λ (n : ℕ). n < size) same (is.addresses 0 0 (omega arith))

behind_front-short : (xs : List ℕ) (limit : ℕ) → length xs ≤ limit → length (behind_front xs) ≤ limit
behind_front-short [] limit h = h
behind_front-short (x ∷ xs) limit h = omega arith

-- if nothing is queued, the processes after the front one are left
pub queued_nothing : (q p : Processes) → length q.addresses ≤ q.limit → p ≡ without_front q → p ≡ queued (without_front q) []
queued_nothing q p room e =
    let rest = behind_front q.addresses in
    let short : length (rest ++ []) ≤ q.limit = rw append-nil (behind_front-short q.addresses q.limit room) in
    e ∙ ap (processes q.limit) (sym (take_all q.limit (rest ++ []) short ∙ append-nil rest))

IsQueue-behind : (size limit : ℕ) (queue : List ℕ) → IsQueue size limit queue → IsQueue size limit (behind_front queue)
IsQueue-behind size limit [] h = h
IsQueue-behind size limit (x ∷ xs) h = record { room = omega (arith, h.room); addresses = All-tail (λ a. a < size) x xs h.addresses }

pub IsQueue-queued : (size : ℕ) (q p : Processes) (more : List ℕ) → IsQueue size q.limit q.addresses → All (λ a. a < size) more → p ≡ queued (without_front q) more → IsQueue size p.limit p.addresses
IsQueue-queued size q p more h m e =
    let rest = behind_front q.addresses in
    let P : Processes → Type 0 = λ p. IsQueue size p.limit p.addresses in
    let short : length (take q.limit (rest ++ more)) ≤ q.limit = omega (arith, length-take q.limit (rest ++ more)) in
    subst P (sym e) (record {
      room = short;
      addresses = All-take (λ a. a < size) q.limit (rest ++ more) (All-append (λ a. a < size) rest more (IsQueue-behind size q.limit q.addresses h).addresses m);
    })

-- what a side's turn keeps of both queues
pub queues_kept : (size : ℕ) (m : Side) (more : List ℕ) (first second first' second' : Processes) → IsQueue size first.limit first.addresses → IsQueue size second.limit second.addresses → All (λ a. a < size) more →
    AreQueuesAfter m more first second first' second' → IsQueue size first'.limit first'.addresses × IsQueue size second'.limit second'.addresses
queues_kept size Side.First more first second first' second' f g m h =
    (IsQueue-queued size first first' more f m h.own, subst (λ (p : Processes). IsQueue size p.limit p.addresses) (sym h.others) g)
queues_kept size Side.Second more first second first' second' f g m h =
    (subst (λ (p : Processes). IsQueue size p.limit p.addresses) (sym h.others) f, IsQueue-queued size second second' more g m h.own)

pub limits_kept : (m : Side) (more : List ℕ) (first second first' second' : Processes) → AreQueuesAfter m more first second first' second' → (first'.limit ≡ first.limit) × (second'.limit ≡ second.limit)
limits_kept Side.First more first second first' second' h = (ap (λ (p : Processes). p.limit) h.own, ap (λ (p : Processes). p.limit) h.others)
limits_kept Side.Second more first second first' second' h = (ap (λ (p : Processes). p.limit) h.others, ap (λ (p : Processes). p.limit) h.own)

-- if the side's own queue has a process left, both still have one
pub both_live : (m : Side) (more : List ℕ) (first second first' second' : Processes) → is_empty first.addresses ≡ false → is_empty second.addresses ≡ false → AreQueuesAfter m more first second first' second' →
    is_empty (queue_at m first' second').addresses ≡ false → (is_empty first'.addresses ≡ false) × (is_empty second'.addresses ≡ false)
both_live Side.First more first second first' second' f g h own = (own, ap (λ (p : Processes). is_empty p.addresses) h.others ∙ g)
both_live Side.Second more first second first' second' f g h own = (ap (λ (p : Processes). is_empty p.addresses) h.others ∙ f, own)

-- what `is_over` says, by its parts
pub is_over-no : (a b : Bool) (m n : ℕ) → a ≡ false → b ≡ false → n < m → (a || b || leb m n) ≡ false
is_over-no true b m n ea eb h = cc
is_over-no false true m n ea eb h = cc
is_over-no false false m n ea eb h = grind (arith, nat_tests)

is_over-parts : (a b : Bool) (m n : ℕ) → (a || b || leb m n) ≡ false → (a ≡ false) × (b ≡ false) × (n < m)
is_over-parts true true m n h = cc
is_over-parts true false m n h = cc
is_over-parts false true m n h = cc
is_over-parts false false m n h = (refl, refl, grind (arith, nat_tests))

pub is_over-first : (a b c : Bool) → a ≡ true → (a || b || c) ≡ true
is_over-first a b c e = rw e refl

pub is_over-second : (a b c : Bool) → b ≡ true → (a || b || c) ≡ true
is_over-second true b c e = refl
is_over-second false b c e = rw e refl

is_over-used : (a b : Bool) (m n : ℕ) → m ≤ n → (a || b || leb m n) ≡ true
is_over-used true b m n h = refl
is_over-used false true m n h = refl
is_over-used false false m n h = grind (arith, nat_tests)

-- a round that is not over: both sides have a process, and not all turns are used
pub both_sides_live : (r : Round) → is_over r ≡ false → (is_empty r.first ≡ false) × (is_empty r.second ≡ false) × (r.used < 2 * r.settings.cycles)
both_sides_live r o = is_over-parts (is_empty r.first) (is_empty r.second) (2 * r.settings.cycles) r.used o

-- a round is over if the queue of a side is empty
pub over-empty : (m : Side) (s : RawSettings) (core : List Instr) (first second : Processes) (next : Side) (used : ℕ) → is_empty (queue_at m first second).addresses ≡ true →
    is_over (round_in s core first.addresses second.addresses next used) ≡ true
over-empty Side.First s core first second next used e = is_over-first (is_empty first.addresses) (is_empty second.addresses) (leb (2 * s.cycles) used) e
over-empty Side.Second s core first second next used e = is_over-second (is_empty first.addresses) (is_empty second.addresses) (leb (2 * s.cycles) used) e

pub turned-over : (r : Round) (over : Bool) → over ≡ is_over r → over ≡ true → Turned.Over ≡ turned r
unfolding turned
turned-over r over e t = rw (sym e ∙ t)

pub after_turn-over : (r : Round) (over : Bool) → over ≡ is_over r → over ≡ true → r ≡ after_turn r
unfolding after_turn
after_turn-over r over e t = rw (sym e ∙ t)

turned-on : (r : Round) (t : SideTurn) → is_over r ≡ false → turn_of r ≡ t → t.turned ≡ turned r
unfolding turned
turned-on r t o e = rw o (sym (ap (λ x. x.turned) e))

pub after_turn-on : (r : Round) (t : SideTurn) → is_over r ≡ false → turn_of r ≡ t → after_side r.to_move t.core t.queue r ≡ after_turn r
unfolding after_turn
after_turn-on r t o e = rw o (sym (ap (λ x. after_side r.to_move x.core x.queue r) e))

pub side_turn-front : (reach : Reach) (limit pc : ℕ) (core core' : List Instr) (queue more : List ℕ) → front queue ≡ Some pc → executed reach core pc ≡ queues core' more →
    side_turn reach limit core queue ≡ side_turned core' (take limit (behind_front queue ++ more)) (turned_by more)
unfolding side_turn
side_turn-front reach limit pc core core' [] more f e = cc
side_turn-front reach limit pc core core' (x ∷ rest) more f e =
    let same : x ≡ pc = cc in
    ap (λ (done : Effect). side_turned done.core (take limit (rest ++ done.queued)) (turned_by done.queued)) (ap (executed reach core) same ∙ e)

-- the turn of the side to move, by the front of its queue
turn_of-front : (m : Side) (s : RawSettings) (reach : Reach) (pc used : ℕ) (core core' : List Instr) (first second : Processes) (more : List ℕ) → reach_of s ≡ reach → s.processes ≡ first.limit → s.processes ≡ second.limit →
    front (queue_at m first second).addresses ≡ Some pc → executed reach core pc ≡ queues core' more →
    turn_of (round_in s core first.addresses second.addresses m used) ≡ side_turned core' (queued (without_front (queue_at m first second)) more).addresses (turned_by more)
turn_of-front Side.First s reach pc used core core' first second more z l1 l2 f e =
    ap₂ (λ (a : Reach) (b : ℕ). side_turn a b core first.addresses) z l1 ∙ side_turn-front reach first.limit pc core core' first.addresses more f e
turn_of-front Side.Second s reach pc used core core' first second more z l1 l2 f e =
    ap₂ (λ (a : Reach) (b : ℕ). side_turn a b core second.addresses) z l2 ∙ side_turn-front reach second.limit pc core core' second.addresses more f e

after_side-queues : (m : Side) (s : RawSettings) (used : ℕ) (core core' : List Instr) (more : List ℕ) (first second first' second' : Processes) → AreQueuesAfter m more first second first' second' →
    after_side m core' (queued (without_front (queue_at m first second)) more).addresses (round_in s core first.addresses second.addresses m used) ≡ round_in s core' first'.addresses second'.addresses (other m) (used + 1)
after_side-queues Side.First s used core core' more first second first' second' h =
    ap₂ (λ (a b : Processes). round_in s core' a.addresses b.addresses Side.Second (used + 1)) (sym h.own) (sym h.others)
after_side-queues Side.Second s used core core' more first second first' second' h =
    ap₂ (λ (a b : Processes). round_in s core' a.addresses b.addresses Side.First (used + 1)) (sym h.others) (sym h.own)

pub after_turns-suc : (m n : ℕ) (r : Round) → m ≡ suc n → after_turns n (after_turn r) ≡ after_turns m r
unfolding after_turns
after_turns-suc m n r e = rw e refl

-- one turn of two sides that have processes
module _ (m : Side) (s : RawSettings) (reach : Reach) (pc : ℕ) (core core' : List Instr) (first second first' second' : Processes) (more : List ℕ)
    (z : reach_of s ≡ reach) (l1 : s.processes ≡ first.limit) (l2 : s.processes ≡ second.limit) (lives1 : is_empty first.addresses ≡ false) (lives2 : is_empty second.addresses ≡ false)
    (at_front : front (queue_at m first second).addresses ≡ Some pc) (done : executed reach core pc ≡ queues core' more) (after : AreQueuesAfter m more first second first' second') where
  goes-on : (used : ℕ) → used < 2 * s.cycles → is_over (round_in s core first.addresses second.addresses m used) ≡ false
  goes-on used h = is_over-no (is_empty first.addresses) (is_empty second.addresses) (2 * s.cycles) used lives1 lives2 h

  pub turned-made : (used : ℕ) → used < 2 * s.cycles → turned_by more ≡ turned (round_in s core first.addresses second.addresses m used)
  turned-made used h =
      turned-on (round_in s core first.addresses second.addresses m used) (side_turned core' (queued (without_front (queue_at m first second)) more).addresses (turned_by more))
      (goes-on used h) (turn_of-front m s reach pc used core core' first second more z l1 l2 at_front done)

  after_turn-made : (used : ℕ) → used < 2 * s.cycles → after_turn (round_in s core first.addresses second.addresses m used) ≡ round_in s core' first'.addresses second'.addresses (other m) (used + 1)
  after_turn-made used h =
      sym (after_turn-on (round_in s core first.addresses second.addresses m used) (side_turned core' (queued (without_front (queue_at m first second)) more).addresses (turned_by more))
      (goes-on used h) (turn_of-front m s reach pc used core core' first second more z l1 l2 at_front done))
      ∙ after_side-queues m s used core core' more first second first' second' after

  -- it is the first of those that are left
  pub after_turns-made : (used most left : ℕ) → used + most ≤ 2 * s.cycles → 0 < left → left ≤ most →
      after_turns (left - 1) (round_in s core' first'.addresses second'.addresses (other m) (used + (most - (left - 1))))
      ≡ after_turns left (round_in s core first.addresses second.addresses m (used + (most - left)))
  after_turns-made used most left bound some within =
      let count : used + (most - (left - 1)) ≡ used + (most - left) + 1 = omega arith in
      let inside : used + (most - left) < 2 * s.cycles = omega arith in
      let fewer : left ≡ suc (left - 1) = omega arith in
      ap (λ (n : ℕ). after_turns (left - 1) (round_in s core' first'.addresses second'.addresses (other m) n)) count
      ∙ (ap (after_turns (left - 1)) (sym (after_turn-made (used + (most - left)) inside))
      ∙ after_turns-suc left (left - 1) (round_in s core first.addresses second.addresses m (used + (most - left))) fewer)

-- no turns are left
pub after_turns-none : (left : ℕ) (round : ℕ → Round) → left ≡ 0 → after_turns left (round left) ≡ round 0
unfolding after_turns
after_turns-none left round e = ap (λ (n : ℕ). after_turns n (round n)) e

pub same_round : (s : RawSettings) (used : ℕ) (core core0 : List Instr) (first first0 second second0 : Processes) (m m0 : Side) → core ≡ core0 → first ≡ first0 → second ≡ second0 → m ≡ m0 →
    round_in s core first.addresses second.addresses m used ≡ round_in s core0 first0.addresses second0.addresses m0 used
same_round s used core core0 first first0 second second0 m m0 a b c d = rw (a, b, c, d) refl

-- a round that is over stays as it is
pub after_turns-over : (n : ℕ) (r : Round) → is_over r ≡ true → after_turns n r ≡ r
unfolding after_turns
after_turns-over zero r o = refl
after_turns-over (suc n) r o =
    let same = after_turn-over r true (sym o) refl in
    ap (after_turns n) (sym same) ∙ after_turns-over n r o

pub after_turns-one : (r : Round) → after_turns 1 r ≡ after_turn r
unfolding after_turns
after_turns-one r = refl

after_side-kept : (m : Side) (core : List Instr) (queue : List ℕ) (r : Round) → ((after_side m core queue r).settings ≡ r.settings) × ((after_side m core queue r).used ≡ r.used + 1)
after_side-kept Side.First core queue r = (refl, refl)
after_side-kept Side.Second core queue r = (refl, refl)

-- a turn keeps the settings, and uses one turn
after_turn-kept : (r : Round) → is_over r ≡ false → ((after_turn r).settings ≡ r.settings) × ((after_turn r).used ≡ r.used + 1)
unfolding after_turn
after_turn-kept r o = rw o (after_side-kept r.to_move (turn_of r).core (turn_of r).queue r)

by_over : {X : Type 0} → (b : Bool) → (b ≡ true → X) → (b ≡ false → X) → X
by_over true over goes = over refl
by_over false over goes = goes refl

-- after all turns that are left it is over
pub after_turns-end : (n : ℕ) (r : Round) → 2 * r.settings.cycles - r.used ≤ n → is_over (after_turns n r) ≡ true
unfolding after_turns
after_turns-end zero r h = is_over-used (is_empty r.first) (is_empty r.second) (2 * r.settings.cycles) r.used (omega arith)
after_turns-end (suc n) r h =
    by_over (is_over r)
    (λ (o : is_over r ≡ true). ap is_over (after_turns-over (suc n) r o) ∙ o)
    (λ (o : is_over r ≡ false).
    let kept = after_turn-kept r o in
    let left : 2 * (after_turn r).settings.cycles - (after_turn r).used ≤ n =
    let cycles : (after_turn r).settings.cycles ≡ r.settings.cycles = ap (λ (x : RawSettings). x.cycles) kept.0 in
    let used : (after_turn r).used ≡ r.used + 1 = kept.1 in
    omega arith in
    after_turns-end n (after_turn r) left)

-- an odd number of turns is one turn, and then an even number
pub after_turns-odd : (most : ℕ) (r r1 : Round) → most % 2 ≢ 0 → r1 ≡ after_turns 1 r → after_turns (2 * (most / 2)) r1 ≡ after_turns most r
after_turns-odd most r r1 odd is =
    let count : most ≡ suc (2 * (most / 2)) = omega (arith, odd) in
    ap (after_turns (2 * (most / 2))) (is ∙ after_turns-one r) ∙ after_turns-suc most (2 * (most / 2)) r count

-- the one turn keeps the settings
pub after_turns-one_kept : (r r1 : Round) → is_over r ≡ false → r1 ≡ after_turns 1 r → (r1.settings ≡ r.settings) × (r1.used ≡ r.used + 1)
after_turns-one_kept r r1 goes is =
    let same : r1 ≡ after_turn r = is ∙ after_turns-one r in
    let kept = after_turn-kept r goes in
    (ap (λ (x : Round). x.settings) same ∙ kept.0, ap (λ (x : Round). x.used) same ∙ kept.1)
