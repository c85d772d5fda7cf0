-- Under limits of the core size an operand is the one without limits, for `laws_of_limits` and for machines without limits.
use Rattle.std.proofs.Common.{◌≡◌, ℕ, ◌+◌, ◌-◌, ◌*◌, ◌/◌, ◌%◌, ◌<◌, Bool, true, false, nat_lt, if◌then◌else◌, List, [], ◌∷◌, ◌++◌, take, All, refl, ap, sym, ◌∙◌, arith, mod-eq_of_lt}
use Rattle.{std.proofs.lemmas.Nat.{div-add-mod', mod-mul-add, mod_below}, war_types.specs.{declared.instr.Instr.Instr, declared.instr.Mode.Mode}}
use Rattle.{mars_words.specs.Numbers.{plus, folded, Field, number}, mars_core.specs.Cells.cell}
use Rattle.mars_core.specs.{Operand.{Operand, Evaluated, pointers, evaluated, raised_at, lowered_at}, Whole.{whole, found, indirect, predecremented, postincremented, by_mode, operand}}
use Rattle.mars_core.specs.{Effect.{Effect, effect}, Round.{executed, side_turn, side_turned, turned_by}, Code.{Operands, operands, whole_operands, evaluated_both}}
use Rattle.mars_core.specs.Operand as limited
use Rattle.mars_core.specs.Whole as without_limits

add-mod : (a b m : ℕ) → 0 < m → (a + b % m) % m ≡ (a + b) % m
add-mod a b m some =
    let r : ℕ = a + b % m in
    let split : a + b ≡ (b / m + r / m) * m + r % m = omega (arith, div-add-mod' b m, div-add-mod' r m) in
    sym (ap (λ (n : ℕ). n % m) split ∙ mod-mul-add (b / m + r / m) m (r % m) (mod_below r m some))

unfolded : (b : Bool) (n size : ℕ) → (if b then n + (size - size) else n) ≡ n
unfolded true n size = omega arith
unfolded false n size = refl

folded-whole : (size n : ℕ) → folded size size n ≡ n % size
folded-whole size n = unfolded (nat_lt (size / 2) (n % size)) (n % size) size

-- what a pointer leads to
leads : (size pc n : ℕ) → 0 < size → plus size pc (folded size size n) ≡ plus size pc n
leads size pc n some = ap (plus size pc) (folded-whole size n) ∙ add-mod pc n size some

leads_on : (size pc p n : ℕ) → 0 < size → plus size pc (folded size size (p + n)) ≡ plus size (plus size pc p) n
leads_on size pc p n some =
    let sum : pc + (p + n) ≡ n + (pc + p) = omega arith in
    let turn : n + plus size pc p ≡ plus size pc p + n = omega arith in
    leads size pc (p + n) some ∙ ap (λ (n : ℕ). n % size) sum ∙ sym (add-mod n (pc + p) size some) ∙ ap (λ (n : ℕ). n % size) turn

module _ (size pc f : ℕ) (field : Field) (some : 0 < size) where
  indirect-whole : (at : ℕ) (core : List Instr) → plus size pc f ≡ at → limited.indirect (whole size) core pc field (pointers f f) ≡ indirect size core at field
  indirect-whole at core e =
      ap (found core) (leads_on size pc f (number field (cell core (plus size pc f))) some) ∙ ap (λ (n : ℕ). indirect size core n field) e

  predecremented-whole : (at : ℕ) (core : List Instr) → plus size pc f ≡ at → limited.predecremented (whole size) core pc field (pointers f f) ≡ predecremented size core at field
  predecremented-whole at core e =
      let lower = lowered_at size core (plus size pc f) field in
      ap (λ (o : Operand). evaluated o lower) (indirect-whole (plus size pc f) lower refl) ∙ ap (λ (n : ℕ). predecremented size core n field) e

  postincremented-whole : (at : ℕ) (core : List Instr) → plus size pc f ≡ at → limited.postincremented (whole size) core pc field (pointers f f) ≡ postincremented size core at field
  postincremented-whole at core e =
      let raised = raised_at size core (plus size pc f) field in
      ap (λ (o : Operand). evaluated o raised) (indirect-whole (plus size pc f) core refl) ∙ ap (λ (n : ℕ). postincremented size core n field) e

by_mode-whole : (size pc f at : ℕ) (core : List Instr) (mode : Mode) → 0 < size → pc < size → plus size pc f ≡ at → limited.by_mode (whole size) core pc mode (pointers f f) ≡ by_mode size core pc mode at
by_mode-whole size pc f at core Mode.Immediate some inside e =
    let none : pc + 0 ≡ pc = omega arith in
    ap (λ (n : ℕ). evaluated (found core n) core) (ap (λ (n : ℕ). n % size) none ∙ mod-eq_of_lt inside)
by_mode-whole size pc f at core Mode.Direct some inside e = ap (λ (n : ℕ). evaluated (found core n) core) e
by_mode-whole size pc f at core Mode.AIndirect some inside e = ap (λ (o : Operand). evaluated o core) (indirect-whole size pc f Field.A some at core e)
by_mode-whole size pc f at core Mode.BIndirect some inside e = ap (λ (o : Operand). evaluated o core) (indirect-whole size pc f Field.B some at core e)
by_mode-whole size pc f at core Mode.APre some inside e = predecremented-whole size pc f Field.A some at core e
by_mode-whole size pc f at core Mode.BPre some inside e = predecremented-whole size pc f Field.B some at core e
by_mode-whole size pc f at core Mode.APost some inside e = postincremented-whole size pc f Field.A some at core e
by_mode-whole size pc f at core Mode.BPost some inside e = postincremented-whole size pc f Field.B some at core e

pub operand-whole : (size pc number : ℕ) (core : List Instr) (mode : Mode) → pc < size → limited.operand (whole size) core pc mode number ≡ operand size core pc mode number
unfolding limited.operand operand
operand-whole size pc number core mode inside =
    let some : 0 < size = omega (arith, inside) in
    by_mode-whole size pc (folded size size number) (plus size pc number) core mode some inside (leads size pc number some)

pub operands-whole : (size pc : ℕ) (core : List Instr) (i : Instr) → pc < size → operands (whole size) core pc i ≡ whole_operands size core pc i
operands-whole size pc core i inside =
    let both : Evaluated → Operands = λ a. let b = limited.operand (whole size) a.core pc i.b_mode i.b in evaluated_both a.operand b.operand b.core in
    let a = operand size core pc i.a_mode i.a in
    ap both (operand-whole size pc i.a core i.a_mode inside) ∙ ap (λ (b : Evaluated). evaluated_both a.operand b.operand b.core) (operand-whole size pc i.b a.core i.b_mode inside)

pub executed-whole : (size pc : ℕ) (core : List Instr) → pc < size → executed (whole size) core pc ≡ without_limits.executed size core pc
unfolding executed without_limits.executed
executed-whole size pc core inside =
    let i = cell core pc in
    ap (λ (o : Operands). effect size pc i.op i.modifier o.a o.b o.core) (operands-whole size pc core i inside)

pub side_turn-whole : (size limit : ℕ) (core : List Instr) (queue : List ℕ) → All (λ a. a < size) queue → side_turn (whole size) limit core queue ≡ without_limits.side_turn size limit core queue
unfolding side_turn without_limits.side_turn
side_turn-whole size limit core [] inside = refl
side_turn-whole size limit core (pc ∷ rest) inside =
    ap (λ (done : Effect). side_turned done.core (take limit (rest ++ done.queued)) (turned_by done.queued)) (executed-whole size pc core (inside 0 0 (omega arith)))
