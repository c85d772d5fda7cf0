use Rattle.std.proofs.{Common.{◌≡◌, ◌∙◌, ℕ, ◌<◌, Bool, not, List, [], ◌∷◌, refl, sym, ap, ap₂, arith}, lemmas.List.Elements.{All-cons, All-nil}}
use Rattle.{war_types.specs.{declared.instr.Op.Op, declared.instr.Modifier.Modifier, declared.instr.Instr.Instr}, mars_operations.specs.{Operand.Operand, Code.operand_of}}
use Rattle.mars_operations.specs.Effect.{Effect, queues, skip_where, jump_where, by_op, effect}
use Rattle.mars_operations.proofs.effect.effect.Goals as goal

-- the effect, by the arm that the operation takes
by_arm : (size pc : ℕ) (op arm : Op) (m : Modifier) (a b : Operand) (core : List Instr) (after : Effect) → op ≡ arm → by_op size pc arm m a b core ≡ after → effect size pc op m a b core ≡ after
unfolding effect
by_arm size pc op arm m a b core after is made = ap (λ (op : Op). by_op size pc op m a b core) is ∙ made

pub returns-in-Dat : goal.returns-in-Dat
returns-in-Dat g c =
    record {
      value = by_arm _ _ _ _ _ _ _ _ _ c.in-Dat.is
          (refl);
      core = c.requires.core;
      addresses = All-nil (λ (a : ℕ). a < c.args.size);
    }

pub returns-in-Mov : goal.returns-in-Mov
returns-in-Mov g c =
    let put_is = c.copy_to.ensures.value in
    record {
      value = by_arm _ _ _ _ _ _ _ _ _ c.in-Mov.is
          (ap₂ (λ (core : List Instr) (n : ℕ). queues core (n ∷ [])) (sym put_is) (sym c.next-next.ensures.value));
      core = c.copy_to.ensures.core;
      addresses = All-cons (λ (a : ℕ). a < c.args.size) c.next-next.result [] c.next-next.ensures.below (All-nil (λ (a : ℕ). a < c.args.size));
    }

pub returns-in-Add : goal.returns-in-Add
returns-in-Add g c =
    record {
      value = by_arm _ _ _ _ _ _ _ _ _ c.in-Add.is
          (c.calculates.ensures.value);
      core = c.calculates.ensures.core;
      addresses = c.calculates.ensures.addresses;
    }

pub returns-in-Sub : goal.returns-in-Sub
returns-in-Sub g c =
    record {
      value = by_arm _ _ _ _ _ _ _ _ _ c.in-Sub.is
          (c.calculates-in-Sub.ensures.value);
      core = c.calculates-in-Sub.ensures.core;
      addresses = c.calculates-in-Sub.ensures.addresses;
    }

pub returns-in-Mul : goal.returns-in-Mul
returns-in-Mul g c =
    record {
      value = by_arm _ _ _ _ _ _ _ _ _ c.in-Mul.is
          (c.calculates-in-Mul.ensures.value);
      core = c.calculates-in-Mul.ensures.core;
      addresses = c.calculates-in-Mul.ensures.addresses;
    }

pub returns-in-Div : goal.returns-in-Div
returns-in-Div g c =
    record {
      value = by_arm _ _ _ _ _ _ _ _ _ c.in-Div.is
          (c.calculates-in-Div.ensures.value);
      core = c.calculates-in-Div.ensures.core;
      addresses = c.calculates-in-Div.ensures.addresses;
    }

pub returns-in-Mdl : goal.returns-in-Mdl
returns-in-Mdl g c =
    record {
      value = by_arm _ _ _ _ _ _ _ _ _ c.in-Mdl.is
          (c.calculates-in-Mdl.ensures.value);
      core = c.calculates-in-Mdl.ensures.core;
      addresses = c.calculates-in-Mdl.ensures.addresses;
    }

pub returns-in-Jmp : goal.returns-in-Jmp
returns-in-Jmp g c =
    record {
      value = by_arm _ _ _ _ _ _ _ _ _ c.in-Jmp.is
          (refl);
      core = c.requires.core;
      addresses = All-cons (λ (a : ℕ). a < c.args.size) c.args.a.pointer [] c.requires.a (All-nil (λ (a : ℕ). a < c.args.size));
    }

pub returns-in-Jmz : goal.returns-in-Jmz
returns-in-Jmz g c =
    record {
      value = by_arm _ _ _ _ _ _ _ _ _ c.in-Jmz.is
          (ap (λ (t : Bool). queues c.args.core.now (jump_where c.args.size c.args.pc (operand_of c.args.a) t)) (ap (λ (t : Bool). t) (sym c.are_zero.ensures)) ∙ ap (queues c.args.core.now) (sym c.jump_where.ensures.value));
      core = c.requires.core;
      addresses = c.jump_where.ensures.addresses;
    }

pub returns-in-Jmn : goal.returns-in-Jmn
returns-in-Jmn g c =
    record {
      value = by_arm _ _ _ _ _ _ _ _ _ c.in-Jmn.is
          (ap (λ (t : Bool). queues c.args.core.now (jump_where c.args.size c.args.pc (operand_of c.args.a) t)) (ap (λ (t : Bool). not t) (sym c.are_zero-in-Jmn.ensures)) ∙ ap (queues c.args.core.now) (sym c.jump_where-in-Jmn.ensures.value));
      core = c.requires.core;
      addresses = c.jump_where-in-Jmn.ensures.addresses;
    }

pub returns-in-Djn : goal.returns-in-Djn
returns-in-Djn g c =
    record {
      value = by_arm _ _ _ _ _ _ _ _ _ c.in-Djn.is
          (cc);
      core = c.put.ensures.core;
      addresses = c.jump_where-in-Djn.ensures.addresses;
    }

pub returns-in-Seq : goal.returns-in-Seq
returns-in-Seq g c =
    record {
      value = by_arm _ _ _ _ _ _ _ _ _ c.in-Seq.is
          (ap (λ (t : Bool). queues c.args.core.now (skip_where c.args.size c.args.pc t)) (ap (λ (t : Bool). t) (sym c.are_equal.ensures)) ∙ ap (queues c.args.core.now) (sym c.skip_where.ensures.value));
      core = c.requires.core;
      addresses = c.skip_where.ensures.addresses;
    }

pub returns-in-Sne : goal.returns-in-Sne
returns-in-Sne g c =
    record {
      value = by_arm _ _ _ _ _ _ _ _ _ c.in-Sne.is
          (ap (λ (t : Bool). queues c.args.core.now (skip_where c.args.size c.args.pc t)) (ap (λ (t : Bool). not t) (sym c.are_equal-in-Sne.ensures)) ∙ ap (queues c.args.core.now) (sym c.skip_where-in-Sne.ensures.value));
      core = c.requires.core;
      addresses = c.skip_where-in-Sne.ensures.addresses;
    }

pub returns-in-Slt : goal.returns-in-Slt
returns-in-Slt g c =
    record {
      value = by_arm _ _ _ _ _ _ _ _ _ c.in-Slt.is
          (ap (λ (t : Bool). queues c.args.core.now (skip_where c.args.size c.args.pc t)) (ap (λ (t : Bool). t) (sym c.are_less.ensures)) ∙ ap (queues c.args.core.now) (sym c.skip_where-in-Slt.ensures.value));
      core = c.requires.core;
      addresses = c.skip_where-in-Slt.ensures.addresses;
    }

pub returns-in-Spl : goal.returns-in-Spl
returns-in-Spl g c =
    record {
      value = by_arm _ _ _ _ _ _ _ _ _ c.in-Spl.is
          (ap (λ (n : ℕ). queues c.args.core.now (n ∷ c.args.a.pointer ∷ [])) (sym c.next-next.ensures.value));
      core = c.requires.core;
      addresses = All-cons (λ (a : ℕ). a < c.args.size) c.next-next.result (c.args.a.pointer ∷ []) c.next-next.ensures.below (All-cons (λ (a : ℕ). a < c.args.size) c.args.a.pointer [] c.requires.a (All-nil (λ (a : ℕ). a < c.args.size)));
    }

pub returns-in-Nop : goal.returns-in-Nop
returns-in-Nop g c =
    record {
      value = by_arm _ _ _ _ _ _ _ _ _ c.in-Nop.is
          (ap (λ (n : ℕ). queues c.args.core.now (n ∷ [])) (sym c.next-next.ensures.value));
      core = c.requires.core;
      addresses = All-cons (λ (a : ℕ). a < c.args.size) c.next-next.result [] c.next-next.ensures.below (All-nil (λ (a : ℕ). a < c.args.size));
    }

-- ---- what the arms require

pub calculates-requires : goal.calculates-requires
calculates-requires g c = record { core = c.requires.core; pc = c.requires.pc; a_numbers = c.requires.a_numbers; b = c.requires.b; b_numbers = c.requires.b_numbers }

pub calculates-requires-in-Sub : goal.calculates-requires-in-Sub
calculates-requires-in-Sub g c = record { core = c.requires.core; pc = c.requires.pc; a_numbers = c.requires.a_numbers; b = c.requires.b; b_numbers = c.requires.b_numbers }

pub calculates-requires-in-Mul : goal.calculates-requires-in-Mul
calculates-requires-in-Mul g c = record { core = c.requires.core; pc = c.requires.pc; a_numbers = c.requires.a_numbers; b = c.requires.b; b_numbers = c.requires.b_numbers }

pub calculates-requires-in-Div : goal.calculates-requires-in-Div
calculates-requires-in-Div g c = record { core = c.requires.core; pc = c.requires.pc; a_numbers = c.requires.a_numbers; b = c.requires.b; b_numbers = c.requires.b_numbers }

pub calculates-requires-in-Mdl : goal.calculates-requires-in-Mdl
calculates-requires-in-Mdl g c = record { core = c.requires.core; pc = c.requires.pc; a_numbers = c.requires.a_numbers; b = c.requires.b; b_numbers = c.requires.b_numbers }

pub copy_to-requires : goal.copy_to-requires
copy_to-requires g c = record { core = c.requires.core; a = c.requires.a_numbers; address = c.requires.b }

pub cell-target-requires : goal.cell-target-requires
cell-target-requires g c = record { core = c.requires.core; address = c.requires.b }

pub all_lowered-requires : goal.all_lowered-requires
all_lowered-requires g c = record { some = omega (arith, c.requires.wide); target = c.cell-target.ensures.numbers }

pub put-requires : goal.put-requires
put-requires g c = record { core = c.requires.core; address = c.requires.b; numbers = c.all_lowered.ensures.numbers }

pub fall_to_zero-requires : goal.fall_to_zero-requires
fall_to_zero-requires g c = record { some = omega (arith, c.requires.wide); b = c.requires.b_numbers }

pub jump_where-requires : goal.jump_where-requires
jump_where-requires g c = record { pc = c.requires.pc; a = c.requires.a }

pub jump_where-requires-in-Jmn : goal.jump_where-requires-in-Jmn
jump_where-requires-in-Jmn g c = record { pc = c.requires.pc; a = c.requires.a }

pub jump_where-requires-in-Djn : goal.jump_where-requires-in-Djn
jump_where-requires-in-Djn g c = record { pc = c.requires.pc; a = c.requires.a }

pub skip_where-requires : goal.skip_where-requires
skip_where-requires g c = record { wide = c.requires.wide; pc = c.requires.pc }

pub skip_where-requires-in-Sne : goal.skip_where-requires-in-Sne
skip_where-requires-in-Sne g c = record { wide = c.requires.wide; pc = c.requires.pc }

pub skip_where-requires-in-Slt : goal.skip_where-requires-in-Slt
skip_where-requires-in-Slt g c = record { wide = c.requires.wide; pc = c.requires.pc }

pub next-next-requires : goal.next-next-requires
next-next-requires g c = record { m = c.requires.pc }
