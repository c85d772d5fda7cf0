-- Of the cells that a turn may change, for `touchable`.
use Rattle.std.proofs.Common.{◌≡◌, ◌≢◌, ℕ, zero, suc, ◌+◌, ◌<◌, List, [], ◌∷◌, All, Some, slice_set, refl, sym, ap, false, subst, ◌∙◌, arith, get_or-set_other}
use Rattle.{war_types.specs.{declared.instr.Op.Op, declared.instr.Modifier.Modifier, declared.instr.Mode.Mode, declared.instr.Instr.Instr}, mars_core.specs.declared.round.Side.Side}
use Rattle.mars_words.specs.Numbers.{plus, minus, folded, Field, number}
use Rattle.mars_core.specs.{Cells.{blank, cell, raised, lowered}, Operand.{Reach, Pointers, Operand, pointed, by_mode, operand, raised_at, lowered_at}}
use Rattle.mars_core.specs.{Effect.{by_op, effect}, Queue.front, Round.{Round, executed, is_over, queue_of, reach_of, turn_of, side_turn, after_side, after_turn}, Touched.AreSameBut, Code.led_by}

-- ---- what stays

set-kept : (core : List Instr) (i at : ℕ) (x : Instr) → i ≢ at → cell (slice_set core i x) at ≡ cell core at
set-kept core i at x other = get_or-set_other core i at x blank (λ e. other (sym e))

-- an operand changes no cell but the one that it goes through
by_mode-kept : (reach : Reach) (core : List Instr) (pc at : ℕ) (mode : Mode) (p : Pointers) → plus reach.size pc p.write ≢ at → cell (by_mode reach core pc mode p).core at ≡ cell core at
by_mode-kept reach core pc at Mode.Immediate p other = refl
by_mode-kept reach core pc at Mode.Direct p other = refl
by_mode-kept reach core pc at Mode.AIndirect p other = refl
by_mode-kept reach core pc at Mode.BIndirect p other = refl
by_mode-kept reach core pc at Mode.APre p other = set-kept core (plus reach.size pc p.write) at _ other
by_mode-kept reach core pc at Mode.BPre p other = set-kept core (plus reach.size pc p.write) at _ other
by_mode-kept reach core pc at Mode.APost p other = set-kept core (plus reach.size pc p.write) at _ other
by_mode-kept reach core pc at Mode.BPost p other = set-kept core (plus reach.size pc p.write) at _ other

-- an operation changes no cell but the one that the B operand writes
by_op-kept : (size pc : ℕ) (op : Op) (m : Modifier) (a b : Operand) (core : List Instr) (at : ℕ) → b.target ≢ at → cell (by_op size pc op m a b core).core at ≡ cell core at
by_op-kept size pc Op.Dat m a b core at other = refl
by_op-kept size pc Op.Mov m a b core at other = set-kept core b.target at _ other
by_op-kept size pc Op.Add m a b core at other = set-kept core b.target at _ other
by_op-kept size pc Op.Sub m a b core at other = set-kept core b.target at _ other
by_op-kept size pc Op.Mul m a b core at other = set-kept core b.target at _ other
by_op-kept size pc Op.Div m a b core at other = set-kept core b.target at _ other
by_op-kept size pc Op.Mdl m a b core at other = set-kept core b.target at _ other
by_op-kept size pc Op.Jmp m a b core at other = refl
by_op-kept size pc Op.Jmz m a b core at other = refl
by_op-kept size pc Op.Jmn m a b core at other = refl
by_op-kept size pc Op.Djn m a b core at other = set-kept core b.target at _ other
by_op-kept size pc Op.Seq m a b core at other = refl
by_op-kept size pc Op.Sne m a b core at other = refl
by_op-kept size pc Op.Slt m a b core at other = refl
by_op-kept size pc Op.Spl m a b core at other = refl
by_op-kept size pc Op.Nop m a b core at other = refl

-- ---- where the B operand writes

-- what a cell holds once an instruction is put into one: that, or what it held
cell-put : (P : Instr → Type 0) (core : List Instr) (i at : ℕ) (x : Instr) → (i ≡ at → P x) → P (cell core at) → P (cell (slice_set core i x) at)
cell-put P [] i at x new old = old
cell-put P (y ∷ core) zero zero x new old = new refl
cell-put P (y ∷ core) zero (suc at) x new old = old
cell-put P (y ∷ core) (suc i) zero x new old = old
cell-put P (y ∷ core) (suc i) (suc at) x new old = cell-put P core i at x (λ e. new (ap suc e)) old

-- a number of an instruction, after one of its numbers is raised, or lowered
raised-number : (P : ℕ → Type 0) (size : ℕ) (field f : Field) (i : Instr) → P (number f i) → P (plus size (number f i) 1) → P (number f (raised size field i))
raised-number P size Field.A Field.A i same more = more
raised-number P size Field.A Field.B i same more = same
raised-number P size Field.B Field.A i same more = same
raised-number P size Field.B Field.B i same more = more

lowered-number : (P : ℕ → Type 0) (size : ℕ) (field f : Field) (i : Instr) → P (number f i) → P (minus size (number f i) 1) → P (number f (lowered size field i))
lowered-number P size Field.A Field.A i same less = less
lowered-number P size Field.A Field.B i same less = same
lowered-number P size Field.B Field.A i same less = same
lowered-number P size Field.B Field.B i same less = less

-- and a number of a cell, after one number of the core is raised, or lowered
module _ (P : ℕ → Type 0) (size : ℕ) (core : List Instr) (i at : ℕ) (field f : Field) (same : P (number f (cell core at))) where
  raised_at-number : P (plus size (number f (cell core at)) 1) → P (number f (cell (raised_at size core i field) at))
  raised_at-number more =
      cell-put (λ y. P (number f y)) core i at (raised size field (cell core i))
      (λ e. subst (λ k. P (number f (raised size field (cell core k)))) (sym e) (raised-number P size field f (cell core at) same more)) same

  lowered_at-number : P (minus size (number f (cell core at)) 1) → P (number f (cell (lowered_at size core i field) at))
  lowered_at-number less =
      cell-put (λ y. P (number f y)) core i at (lowered size field (cell core i))
      (λ e. subst (λ k. P (number f (lowered size field (cell core k)))) (sym e) (lowered-number P size field f (cell core at) same less)) same

-- a number of a cell once an operand is evaluated
by_mode-number : (P : ℕ → Type 0) (reach : Reach) (core : List Instr) (pc at : ℕ) (mode : Mode) (p : Pointers) (f : Field) → P (number f (cell core at)) → P (plus reach.size (number f (cell core at)) 1)
    → P (minus reach.size (number f (cell core at)) 1) → P (number f (cell (by_mode reach core pc mode p).core at))
by_mode-number P reach core pc at Mode.Immediate p f same more less = same
by_mode-number P reach core pc at Mode.Direct p f same more less = same
by_mode-number P reach core pc at Mode.AIndirect p f same more less = same
by_mode-number P reach core pc at Mode.BIndirect p f same more less = same
by_mode-number P reach core pc at Mode.APre p f same more less = lowered_at-number P reach.size core (plus reach.size pc p.write) at Field.A f same less
by_mode-number P reach core pc at Mode.BPre p f same more less = lowered_at-number P reach.size core (plus reach.size pc p.write) at Field.B f same less
by_mode-number P reach core pc at Mode.APost p f same more less = raised_at-number P reach.size core (plus reach.size pc p.write) at Field.A f same more
by_mode-number P reach core pc at Mode.BPost p f same more less = raised_at-number P reach.size core (plus reach.size pc p.write) at Field.B f same more

-- the address to which a pointer leads on by a number, counted from an instruction
abbrev pub on_by : ℕ → ℕ → ℕ → ℕ → ℕ → ℕ
on_by size write pc pointer n = plus size pc (folded size write (pointer + n))

-- the address that an operand writes
by_mode-target : (P : ℕ → Type 0) (reach : Reach) (core : List Instr) (pc : ℕ) (mode : Mode) (p : Pointers) → P (plus reach.size pc 0) → P (plus reach.size pc p.write)
    → P (on_by reach.size reach.write pc p.write (number (led_by mode) (cell core (plus reach.size pc p.write))))
    → P (on_by reach.size reach.write pc p.write (minus reach.size (number (led_by mode) (cell core (plus reach.size pc p.write))) 1))
    → P (by_mode reach core pc mode p).operand.target
by_mode-target P reach core pc Mode.Immediate p here there on less = here
by_mode-target P reach core pc Mode.Direct p here there on less = there
by_mode-target P reach core pc Mode.AIndirect p here there on less = on
by_mode-target P reach core pc Mode.BIndirect p here there on less = on
by_mode-target P reach core pc Mode.APre p here there on less =
    let at : ℕ = plus reach.size pc p.write in
    lowered_at-number (λ n. P (on_by reach.size reach.write pc p.write n)) reach.size core at at Field.A Field.A on less
by_mode-target P reach core pc Mode.BPre p here there on less =
    let at : ℕ = plus reach.size pc p.write in
    lowered_at-number (λ n. P (on_by reach.size reach.write pc p.write n)) reach.size core at at Field.B Field.B on less
by_mode-target P reach core pc Mode.APost p here there on less = on
by_mode-target P reach core pc Mode.BPost p here there on less = on

-- ---- a turn

-- the addresses that an instruction may write
abbrev pub touched : ℕ → ℕ → List Instr → ℕ → List ℕ
touched size write core pc =
    let b = folded size write (cell core pc).b in
    let n = number (led_by (cell core pc).b_mode) (cell core (plus size pc b)) in
    plus size pc 0
    ∷ plus size pc (folded size write (cell core pc).a)
    ∷ plus size pc b
    ∷ on_by size write pc b n
    ∷ on_by size write pc b (plus size n 1)
    ∷ on_by size write pc b (minus size n 1)
    ∷ on_by size write pc b (minus size (plus size n 1) 1)
    ∷ on_by size write pc b (minus size (minus size n 1) 1)
    ∷ []

executed-kept : (reach : Reach) (core : List Instr) (pc : ℕ) → AreSameBut (touched reach.size reach.write core pc) core (executed reach core pc).core
unfolding executed effect operand
executed-kept reach core pc at others =
    let i : Instr = cell core pc in
    let p : Pointers = pointed reach i.b in
    let a = by_mode reach core pc i.a_mode (pointed reach i.a) in
    let b = by_mode reach a.core pc i.b_mode p in
    let f : Field = led_by i.b_mode in
    let through : ℕ = plus reach.size pc p.write in
    let on : ℕ → Type 0 = λ n. on_by reach.size reach.write pc p.write n ≢ at in
    let target : b.operand.target ≢ at =
    by_mode-target (λ t. t ≢ at) reach a.core pc i.b_mode p (others 0 0 (omega arith)) (others 2 0 (omega arith))
    (by_mode-number on reach core pc through i.a_mode (pointed reach i.a) f (others 3 0 (omega arith)) (others 4 0 (omega arith)) (others 5 0 (omega arith)))
    (by_mode-number (λ n. on (minus reach.size n 1)) reach core pc through i.a_mode (pointed reach i.a) f
    (others 5 0 (omega arith)) (others 6 0 (omega arith)) (others 7 0 (omega arith))) in
    by_op-kept reach.size pc i.op i.modifier a.operand b.operand b.core at target
    ∙ by_mode-kept reach a.core pc at i.b_mode p (others 2 0 (omega arith))
    ∙ by_mode-kept reach core pc at i.a_mode (pointed reach i.a) (others 1 0 (omega arith))

-- so does any list of these addresses
pub executed-same : (reach : Reach) (size write pc : ℕ) (core : List Instr) (addresses : List ℕ) → reach.size ≡ size → reach.write ≡ write → addresses ≡ touched size write core pc
    → AreSameBut addresses core (executed reach core pc).core
executed-same reach size write pc core addresses size_is write_is are at others =
    executed-kept reach core pc at
    (subst (All (λ a. a ≢ at)) (are ∙ (λ t. touched (sym size_is t) (sym write_is t) core pc)) others)

side_turn-core : (reach : Reach) (limit pc : ℕ) (core : List Instr) (queue : List ℕ) → front queue ≡ Some pc → (side_turn reach limit core queue).core ≡ (executed reach core pc).core
unfolding side_turn
side_turn-core reach limit pc core [] f = cc
side_turn-core reach limit pc core (x ∷ rest) f =
    let same : x ≡ pc = cc in
    ap (λ (n : ℕ). (executed reach core n).core) same

after_side-core : (m : Side) (core : List Instr) (queue : List ℕ) (r : Round) → (after_side m core queue r).core ≡ core
after_side-core Side.First core queue r = refl
after_side-core Side.Second core queue r = refl

after_turn-core : (r : Round) → is_over r ≡ false → (after_turn r).core ≡ (turn_of r).core
unfolding after_turn
after_turn-core r o = rw o (after_side-core r.to_move (turn_of r).core (turn_of r).queue r)

-- what the process at the front leaves as it was is so after the turn
pub turn-same : (r : Round) (pc : ℕ) (addresses : List ℕ) → is_over r ≡ false → front (queue_of r.to_move r) ≡ Some pc
    → AreSameBut addresses r.core (executed (reach_of r.settings) r.core pc).core → AreSameBut addresses r.core (after_turn r).core
turn-same r pc addresses o f same at others =
    ap (λ core. cell core at) (after_turn-core r o ∙ side_turn-core (reach_of r.settings) r.settings.processes pc r.core (queue_of r.to_move r) f)
    ∙ same at others

-- the front process of a queue is in the core
pub front-below : (size n : ℕ) (queue : List ℕ) → front queue ≡ Some n → All (λ a. a < size) queue → n < size
front-below size n [] f inside = cc
front-below size n (x ∷ xs) f inside =
    let same : x ≡ n = cc in
    subst (λ (m : ℕ). m < size) same (inside 0 0 (omega arith))
