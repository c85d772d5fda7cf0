-- What the events of cells, of processes and of a turn draw.
use Rattle.std.proofs.Common.{◌≡◌, ℕ, zero, suc, ◌+◌, ◌-◌, ◌<◌, ◌≤◌, Bool, true, false, ◌&&◌, ◌==◌, if◌then◌else◌, List, [], ◌∷◌, ◌++◌, length, map, take, drop, get_or, set, slice_index, refl, sym}
use Rattle.std.proofs.{Common.{ap, subst, ◌∙◌, append_assoc, append-nil, eqb-true, arith}, lemmas.Bool.and_parts, lemmas.List.{take_all, drop_all, take_at, take-take, take-append-drop, set-get_or}}
use Rattle.war_types.specs.{declared.instr.Op.Op, declared.instr.Modifier.Modifier, declared.instr.Mode.Mode, declared.instr.Instr.Instr, declared.settings.RawSettings.RawSettings}
use Rattle.{war_types.specs.Bytes.{op_code, modifier_code, mode_code}, mars_core.specs.{declared.round.Side.Side, Cells.{blank, cell}, Operand.Reach, Effect.{are_equal, kinds_equal, numbers_equal}}}
use Rattle.mars_core.specs.{Words.{op_at, modifier_at, mode_at}, Code.other, Round.{Round, executed, is_empty, is_over, queue_of, side_turn, turn_of, after_side, after_turn, IsRound}}
use Rattle.{mars_core.proofs.Turns.both_sides_live, koth_replay.specs.{declared.event.Event.Event, Picture.{Picture, picture, picture_of, after_event, drawn}}}
use Rattle.{koth_replay.specs.Turn.{cell_told, cell_events, core_events, process_events, turn_events}, koth_replay.proofs.Steps.{next_number, at_place, one_place_more}}

pub drawn-append : (p : Picture) (xs ys : List Event) → drawn p (xs ++ ys) ≡ drawn (drawn p xs) ys
drawn-append p [] ys = refl
drawn-append p (x ∷ xs) ys = drawn-append (after_event x p) xs ys

-- ---- equal instructions are the same

op_read : (op : Op) → op_at (op_code op) ≡ op
op_read Op.Dat = refl
op_read op = refl

modifier_read : (m : Modifier) → modifier_at (modifier_code m) ≡ m
modifier_read Modifier.A = refl
modifier_read m = refl

mode_read : (m : Mode) → mode_at (mode_code m) ≡ m
mode_read Mode.Immediate = refl
mode_read m = refl

-- things with one code are the same
one_of : {X : Type 0} (code : X → ℕ) (at : ℕ → X) (read : (x : X) → at (code x) ≡ x) (a b : X) → (code a == code b) ≡ true → a ≡ b
one_of code at read a b e = sym (read a) ∙ ap at (eqb-true (code a) (code b) e) ∙ read b

pub are_equal-same : (a b : Instr) → are_equal Modifier.I a b ≡ true → a ≡ b
are_equal-same a b e =
    let all = and_parts (kinds_equal a b) (numbers_equal Modifier.I a b) e in
    let kinds = and_parts (op_code a.op == op_code b.op && modifier_code a.modifier == modifier_code b.modifier && mode_code a.a_mode == mode_code b.a_mode) (mode_code a.b_mode == mode_code b.b_mode) all.0 in
    let firsts = and_parts (op_code a.op == op_code b.op && modifier_code a.modifier == modifier_code b.modifier) (mode_code a.a_mode == mode_code b.a_mode) kinds.0 in
    let ops_and = and_parts (op_code a.op == op_code b.op) (modifier_code a.modifier == modifier_code b.modifier) firsts.0 in
    let numbers = and_parts (a.a == b.a) (a.b == b.b && true) all.1 in
    let last = and_parts (a.b == b.b) true numbers.1 in
    let op = one_of op_code op_at op_read a.op b.op ops_and.0 in
    let modifier = one_of modifier_code modifier_at modifier_read a.modifier b.modifier ops_and.1 in
    let a_mode = one_of mode_code mode_at mode_read a.a_mode b.a_mode firsts.1 in
    let b_mode = one_of mode_code mode_at mode_read a.b_mode b.b_mode kinds.1 in
    let a_number = eqb-true a.a b.a numbers.0 in
    let b_number = eqb-true a.b b.b last.0 in
    λ t. record { op = op t; modifier = modifier t; a_mode = a_mode t; a = a_number t; b_mode = b_mode t; b = b_number t }

-- ---- cells

told_draws : (b : Bool) (cells : List Instr) (first second : List ℕ) (m : Side) (new : Instr) (at : ℕ) → (b ≡ true → set cells at new ≡ cells) →
    drawn (picture cells first second m) (if b then [] else Event.Cell at new ∷ []) ≡ picture (set cells at new) first second m
told_draws true cells first second m new at same = ap (λ c. picture c first second m) (sym (same refl))
told_draws false cells first second m new at same = refl

-- what is told of a cell draws what it holds
cell_draws : (cells : List Instr) (first second : List ℕ) (m : Side) (old new : Instr) (at : ℕ) → get_or cells at blank ≡ old →
    drawn (picture cells first second m) (cell_told old new at) ≡ picture (set cells at new) first second m
cell_draws cells first second m old new at held =
    told_draws (are_equal Modifier.I old new) cells first second m new at
    (λ equal. ap (set cells at) (sym (held ∙ are_equal-same old new equal)) ∙ set-get_or cells at blank)

-- what is told of the first n cells draws what they hold
cells_draw : (n : ℕ) (old new : List Instr) (first second : List ℕ) (m : Side) → n ≤ length old → length new ≡ length old →
    drawn (picture old first second m) (core_events n old new) ≡ picture (take n new ++ drop n old) first second m
cells_draw zero old new first second m within same = refl
cells_draw (suc n) old new first second m within same =
    let p : Picture = picture old first second m in
    let below : n < length old = omega arith in
    let number : 0 + n ≡ n = omega arith in
    let next : n + 1 ≡ suc n = omega arith in
    ap (drawn p) (next_number (cell_events old new) 0 n ∙ ap (λ k. core_events n old new ++ cell_events old new k) number)
    ∙ drawn-append p (core_events n old new) (cell_events old new n)
    ∙ ap (λ q. drawn q (cell_events old new n)) (cells_draw n old new first second m (omega arith) same)
    ∙ cell_draws (take n new ++ drop n old) first second m (cell old n) (cell new n) n (at_place old new n blank below same)
    ∙ ap (λ c. picture c first second m) (one_place_more old new n blank below same ∙ ap (λ k. take k new ++ drop k old) next)

-- what is told of all cells draws all of them
pub core_draws : (size : ℕ) (old new : List Instr) (first second : List ℕ) (m : Side) → length old ≡ size → length new ≡ size →
    drawn (picture old first second m) (core_events size old new) ≡ picture new first second m
core_draws size old new first second m old_size new_size =
    cells_draw size old new first second m (omega arith) (new_size ∙ sym old_size)
    ∙ ap (λ c. picture c first second m) (ap (λ c. c ++ drop size old) (take_all size new (omega arith)) ∙ ap (λ c. new ++ c) (drop_all size old (omega arith)) ∙ append-nil new)

-- ---- processes

first_draws : (cells : List Instr) (first second more : List ℕ) → drawn (picture cells first second Side.Second) (map (λ at. Event.Process at) more) ≡ picture cells (first ++ more) second Side.Second
first_draws cells first second [] = ap (λ q. picture cells q second Side.Second) (sym (append-nil first))
first_draws cells first second (x ∷ more) =
    first_draws cells (first ++ x ∷ []) second more ∙ ap (λ q. picture cells q second Side.Second) (append_assoc first (x ∷ []) more)

second_draws : (cells : List Instr) (first second more : List ℕ) → drawn (picture cells first second Side.First) (map (λ at. Event.Process at) more) ≡ picture cells first (second ++ more) Side.First
second_draws cells first second [] = ap (λ q. picture cells first q Side.First) (sym (append-nil second))
second_draws cells first second (x ∷ more) =
    second_draws cells first (second ++ x ∷ []) more ∙ ap (λ q. picture cells first q Side.First) (append_assoc second (x ∷ []) more)

-- a turn takes the front of a queue off and adds the rest at its end, as far as there is room
grown : (limit : ℕ) (rest more : List ℕ) → length rest ≤ limit → rest ++ drop (length rest) (take limit (rest ++ more)) ≡ take limit (rest ++ more)
grown limit rest more room =
    let all : List ℕ = take limit (rest ++ more) in
    let front : rest ≡ take (length rest) all = sym (take-take (length rest) limit (rest ++ more) room ∙ take_at rest more (length rest) refl) in
    ap (λ l. l ++ drop (length rest) all) front ∙ take-append-drop (length rest) all

-- a queue that holds what came after the front, and more
abbrev Follows : List ℕ → List ℕ → Type 0
Follows old new = drop 1 old ++ drop (length old - 1) new ≡ new

side_follows : (reach : Reach) (limit : ℕ) (core : List Instr) (queue : List ℕ) → is_empty queue ≡ false → length queue ≤ limit → Follows queue (side_turn reach limit core queue).queue
unfolding side_turn
side_follows reach limit core [] lives room = cc
side_follows reach limit core (pc ∷ rest) lives room =
    let more : List ℕ = (executed reach core pc).queued in
    let short : length rest ≤ limit = omega arith in
    let behind : length (pc ∷ rest) - 1 ≡ length rest = omega arith in
    ap (λ n. rest ++ drop n (take limit (rest ++ more))) behind ∙ grown limit rest more short

-- ---- a turn

abbrev told_by : Side → Round → Round → List Event
told_by m r next =
    Event.Turn m (slice_index (queue_of m r) 0)
    ∷ (core_events r.settings.core r.core next.core ++ process_events (length (queue_of m r) - 1) (queue_of m next))

-- the events of a side's turn that leaves this core and this queue of its own draw the round after it
side_draws : (m : Side) (r : Round) (core : List Instr) (queue : List ℕ) → length r.core ≡ r.settings.core → length core ≡ r.settings.core → Follows (queue_of m r) queue →
    drawn (picture_of r) (told_by m r (after_side m core queue r)) ≡ picture_of (after_side m core queue r)
side_draws Side.First r core queue here there follows =
    let size = r.settings.core in
    let start : Picture = picture r.core (drop 1 r.first) r.second Side.Second in
    let more : List Event = process_events (length r.first - 1) queue in
    drawn-append start (core_events size r.core core) more
    ∙ ap (λ p. drawn p more) (core_draws size r.core core (drop 1 r.first) r.second Side.Second here there)
    ∙ first_draws core (drop 1 r.first) r.second (drop (length r.first - 1) queue)
    ∙ ap (λ q. picture core q r.second Side.Second) follows
side_draws Side.Second r core queue here there follows =
    let size = r.settings.core in
    let start : Picture = picture r.core r.first (drop 1 r.second) Side.First in
    let more : List Event = process_events (length r.second - 1) queue in
    drawn-append start (core_events size r.core core) more
    ∙ ap (λ p. drawn p more) (core_draws size r.core core r.first (drop 1 r.second) Side.First here there)
    ∙ second_draws core r.first (drop 1 r.second) (drop (length r.second - 1) queue)
    ∙ ap (λ q. picture core r.first q Side.First) follows

pub after_turn-goes : (r : Round) → is_over r ≡ false → after_turn r ≡ after_side r.to_move (turn_of r).core (turn_of r).queue r
unfolding after_turn
after_turn-goes r o = rw o refl

after_side-core : (m : Side) (core : List Instr) (queue : List ℕ) (r : Round) → ((after_side m core queue r).core ≡ core) × ((after_side m core queue r).settings ≡ r.settings)
after_side-core Side.First core queue r = (refl, refl)
after_side-core Side.Second core queue r = (refl, refl)

after_side-next : (m : Side) (core : List Instr) (queue : List ℕ) (r : Round) → other m ≡ (after_side m core queue r).to_move
after_side-next Side.First core queue r = refl
after_side-next Side.Second core queue r = refl

-- the other side is next
pub side-next : (m side : Side) (r next : Round) → is_over r ≡ false → next ≡ after_turn r → m ≡ r.to_move → side ≡ other m → side ≡ next.to_move
side-next m side r next o next_is m_is side_is =
    side_is ∙ ap other m_is ∙ after_side-next r.to_move (turn_of r).core (turn_of r).queue r ∙ ap (λ (x : Round). x.to_move) (sym (next_is ∙ after_turn-goes r o))

-- the queue of the side to move
pub queue_lives : (m : Side) (r : Round) → is_over r ≡ false → is_empty (queue_of m r) ≡ false
queue_lives Side.First r o = (both_sides_live r o).0
queue_lives Side.Second r o = (both_sides_live r o).1

queue_room : (m : Side) (r : Round) → IsRound r → length (queue_of m r) ≤ r.settings.processes
queue_room Side.First r is = is.first.room
queue_room Side.Second r is = is.second.room

-- the events of a turn draw the round after it
pub turn_draws : (r : Round) → IsRound r → IsRound (after_turn r) → is_over r ≡ false → drawn (picture_of r) (turn_events r) ≡ picture_of (after_turn r)
unfolding turn_events
turn_draws r is next_is o =
    let core : List Instr = (turn_of r).core in
    let queue : List ℕ = (turn_of r).queue in
    let goes = after_turn-goes r o in
    let left = after_side-core r.to_move core queue r in
    let core_is : (after_turn r).core ≡ core = ap (λ (x : Round). x.core) goes ∙ left.0 in
    let size_is : (after_turn r).settings.core ≡ r.settings.core = ap (λ (x : Round). x.settings.core) goes ∙ ap (λ (s : RawSettings). s.core) left.1 in
    let there : length core ≡ r.settings.core = ap length (sym core_is) ∙ next_is.core.length ∙ size_is in
    let follows = side_follows _ r.settings.processes r.core (queue_of r.to_move r) (queue_lives r.to_move r o) (queue_room r.to_move r is) in
    subst (λ (next : Round). drawn (picture_of r) (told_by r.to_move r next) ≡ picture_of next) (sym goes)
    (side_draws r.to_move r core queue is.core.length there follows)
