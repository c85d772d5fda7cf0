-- How an instruction is executed, by its operands and its effect, and what its kind says of them.
use Rattle.std.proofs.Common.{◌≡◌, ℕ, ◌+◌, ◌*◌, ◌/◌, ◌%◌, ◌<◌, List, get_or, refl, sym, ap, ap₂, ◌∙◌, arith}
use Rattle.war_types.specs.{declared.instr.Op.Op, declared.instr.Modifier.Modifier, declared.instr.Mode.Mode, declared.instr.Instr.Instr, Bytes.{op_code, modifier_code, mode_code}}
use Rattle.mars_core.specs.{Cells.cell, Operand.{Reach, Operand, Evaluated, evaluated}, Effect.{Effect, effect}, Whole.{whole, operand}, Round.executed}
use Rattle.mars_words.{specs.Kinds.kinds, specs.Words.{kind_code, operation_code, modes_code, same_modifier, same_operation, same_kind, handler_of, op_at, modifier_at, mode_at}, proofs.{Words.{op_is_read, modifier_is_read, mode_is_read}, Places.kind_of_handler}}
use Rattle.mars_core.specs.{Code.{Operands, evaluated_both, operands, whole_operands}, Passes.{parts_of, modes_of}}
use Rattle.mars_core.proofs.Reaches.{operands-whole}

-- an instruction is executed by its operands and its effect
pub by_operands : (reach : Reach) (size pc : ℕ) (core core1 : List Instr) (i : Instr) (a b : Operand) (after : Effect) → reach.size ≡ size → i ≡ cell core pc → operands reach core pc i ≡ evaluated_both a b core1 →
    effect size pc i.op i.modifier a b core1 ≡ after → executed reach core pc ≡ after
unfolding executed
by_operands reach size pc core core1 i a b after size_is is both made =
    ap (λ (i : Instr). let o = operands reach core pc i in effect reach.size pc i.op i.modifier o.a o.b o.core) (sym is)
    ∙ (ap₂ (λ (n : ℕ) (o : Operands). effect n pc i.op i.modifier o.a o.b o.core) size_is both ∙ made)

-- both operands, by the one after the other
pub both : (size pc : ℕ) (i : Instr) (core core1 core2 : List Instr) (a b : Operand) → operand size core pc i.a_mode i.a ≡ evaluated a core1 → operand size core1 pc i.b_mode i.b ≡ evaluated b core2 →
    whole_operands size core pc i ≡ evaluated_both a b core2
both size pc i core core1 core2 a b one two =
    let rest : Evaluated → Operands = λ (e : Evaluated). let x = operand size e.core pc i.b_mode i.b in evaluated_both e.operand x.operand x.core in
    ap rest one ∙ ap (λ (e : Evaluated). evaluated_both a e.operand e.core) two

-- an operation does the same under the modifiers that are the same for it
effect-same : (size pc : ℕ) (op : Op) (m : Modifier) (a b : Operand) (core : List Instr) → effect size pc op (same_modifier op m) a b core ≡ effect size pc op m a b core
unfolding effect
effect-same size pc Op.Dat m a b core = refl
effect-same size pc Op.Jmp m a b core = refl
effect-same size pc Op.Spl m a b core = refl
effect-same size pc Op.Nop m a b core = refl
effect-same size pc Op.Mov m a b core = refl
effect-same size pc Op.Seq m a b core = refl
effect-same size pc Op.Sne m a b core = refl
effect-same size pc op Modifier.A a b core = refl
effect-same size pc op m a b core = refl

same_operation-is : (i : Instr) → same_operation (operation_code i) ≡ modifier_code (same_modifier i.op i.modifier) + op_code i.op * 8
unfolding same_operation
same_operation-is i =
    let small = (modifier_is_read i.modifier).1 in
    let op : operation_code i / 8 ≡ op_code i.op = omega (arith, small) in
    let modifier : operation_code i % 8 ≡ modifier_code i.modifier = omega (arith, small) in
    ap₂ (λ (n k : ℕ). modifier_code (same_modifier (op_at n) (modifier_at k)) + n * 8) op modifier
    ∙ ap₂ (λ (op : Op) (m : Modifier). modifier_code (same_modifier op m) + op_code i.op * 8) (op_is_read i.op).0 (modifier_is_read i.modifier).0

-- what the code of an operation says of it
pub record IsOperationOf (i : Instr) (o : ℕ) : Type 0 where
  pub op : op_at (o / 8) ≡ i.op
  pub modifier : modifier_at (o % 8) ≡ same_modifier i.op i.modifier

operation-read : (i : Instr) (o : ℕ) → o ≡ same_operation (operation_code i) → IsOperationOf i o
operation-read i o is =
    let m : Modifier = same_modifier i.op i.modifier in
    let modifier = modifier_is_read m in
    let whole : o ≡ modifier_code m + op_code i.op * 8 = is ∙ same_operation-is i in
    let o_is : o / 8 ≡ op_code i.op = omega (arith, whole, modifier.1) in
    let m_is : o % 8 ≡ modifier_code m = omega (arith, whole, modifier.1) in
    record { op = ap op_at o_is ∙ (op_is_read i.op).0; modifier = ap modifier_at m_is ∙ modifier.0 }

-- what an instruction does by the code of an operation that does the same
pub effect-by : (size pc o : ℕ) (i : Instr) (x y : Operand) (core : List Instr) (after : Effect) → o ≡ same_operation (operation_code i) →
    effect size pc (op_at (o / 8)) (modifier_at (o % 8)) x y core ≡ after → effect size pc i.op i.modifier x y core ≡ after
effect-by size pc o i x y core after is made =
    let read = operation-read i o is in
    sym (effect-same size pc i.op i.modifier x y core)
    ∙ (ap₂ (λ (op : Op) (m : Modifier). effect size pc op m x y core) (sym read.op) (sym read.modifier) ∙ made)

-- the modes of an instruction by their code
pub modes-read : (i : Instr) (n a b : ℕ) → n ≡ modes_code i → modes_of n ≡ (a, b) → (mode_at a ≡ i.a_mode) × (mode_at b ≡ i.b_mode)
modes-read i n a b is parts =
    let a_mode = mode_is_read i.a_mode in
    let b_mode = mode_is_read i.b_mode in
    let a_at : n / 8 ≡ a = ap (λ (p : ℕ × ℕ). p.0) parts in
    let b_at : n % 8 ≡ b = ap (λ (p : ℕ × ℕ). p.1) parts in
    let a_is : a ≡ mode_code i.a_mode = omega (arith, a_at, is, b_mode.1) in
    let b_is : b ≡ mode_code i.b_mode = omega (arith, b_at, is, b_mode.1) in
    (ap mode_at a_is ∙ a_mode.0, ap mode_at b_is ∙ b_mode.0)

-- both operands of an instruction whose modes are known
pub by_pair : (size pc n a b : ℕ) (i : Instr) (core core1 core2 : List Instr) (x y : Operand) → n ≡ modes_code i → modes_of n ≡ (a, b) →
    operand size core pc (mode_at a) i.a ≡ evaluated x core1 → operand size core1 pc (mode_at b) i.b ≡ evaluated y core2 → whole_operands size core pc i ≡ evaluated_both x y core2
by_pair size pc n a b i core core1 core2 x y is parts one two =
    let read = modes-read i n a b is parts in
    both size pc i core core1 core2 x y
    (ap (λ (m : Mode). operand size core pc m i.a) (sym read.0) ∙ one)
    (ap (λ (m : Mode). operand size core1 pc m i.b) (sym read.1) ∙ two)

-- an instruction is executed without limits by its operands and its effect
pub by_whole : (size pc : ℕ) (core core1 : List Instr) (i : Instr) (a b : Operand) (after : Effect) → pc < size → i ≡ cell core pc → whole_operands size core pc i ≡ evaluated_both a b core1 →
    effect size pc i.op i.modifier a b core1 ≡ after → executed (whole size) core pc ≡ after
by_whole size pc core core1 i a b after inside is both made = by_operands (whole size) size pc core core1 i a b after refl is (operands-whole size pc core i inside ∙ both) made

-- the kind that has an instruction's handler, by the number of the handler
pub parts_of_handler : (i : Instr) (n h : ℕ) → n ≡ handler_of i → n ≡ h → 0 < h → parts_of (same_kind (kind_code i)) ≡ parts_of (get_or kinds h 0)
parts_of_handler i n h is at some = ap parts_of (kind_of_handler i n h is at some)

-- its operation, and its modes
record AreParts (i : Instr) (o a b : ℕ) : Type 0 where
  pub operation : o ≡ same_operation (operation_code i)
  pub modes : modes_of (modes_code i) ≡ (a, b)

parts-read : (i : Instr) (o a b : ℕ) → parts_of (same_kind (kind_code i)) ≡ (o, a, b) → AreParts i o a b
unfolding same_kind
parts-read i o a b is =
    let a_mode = mode_is_read i.a_mode in
    let b_mode = mode_is_read i.b_mode in
    let o_at : same_kind (kind_code i) / 64 ≡ o = ap (λ (p : ℕ × ℕ × ℕ). p.0) is in
    let a_at : same_kind (kind_code i) / 8 % 8 ≡ a = ap (λ (p : ℕ × ℕ × ℕ). p.1) is in
    let b_at : same_kind (kind_code i) % 8 ≡ b = ap (λ (p : ℕ × ℕ × ℕ). p.2) is in
    let code : kind_code i / 64 ≡ operation_code i = omega (arith, a_mode.1, b_mode.1) in
    let o_is : o ≡ same_operation (kind_code i / 64) = omega (arith, o_at) in
    let a_is : modes_code i / 8 ≡ a = omega (arith, a_at, a_mode.1, b_mode.1) in
    let b_is : modes_code i % 8 ≡ b = omega (arith, b_at, a_mode.1, b_mode.1) in
    record { operation = o_is ∙ ap same_operation code; modes = ap₂ (λ (x y : ℕ). (x, y)) a_is b_is }

-- an instruction whose kind is known is executed by the operands of its modes and the effect of its operation
pub by_kind : (size pc o a b : ℕ) (core core1 core2 : List Instr) (i : Instr) (x y : Operand) (after : Effect) → pc < size → i ≡ cell core pc → parts_of (same_kind (kind_code i)) ≡ (o, a, b) →
    operand size core pc (mode_at a) i.a ≡ evaluated x core1 → operand size core1 pc (mode_at b) i.b ≡ evaluated y core2 →
    effect size pc (op_at (o / 8)) (modifier_at (o % 8)) x y core2 ≡ after → executed (whole size) core pc ≡ after
by_kind size pc o a b core core1 core2 i x y after inside is kind one two made =
    let parts = parts-read i o a b kind in
    by_whole size pc core core2 i x y after inside is
    (by_pair size pc (modes_code i) a b i core core1 core2 x y refl parts.modes one two)
    (effect-by size pc o i x y core2 after parts.operation made)
