use Rattle.{std.proofs.Common.{◌≡◌, ◌∙◌, ℕ, List, sym, ap, arith}, war_types.specs.{declared.instr.Instr.Instr, declared.instr.Mode.Mode}}
use Rattle.{mars_words.specs.Numbers.{plus, Field}, mars_operations.specs.{Operand.{Operand, Evaluated, evaluated}, Whole.{found, indirect, predecremented, postincremented, by_mode, operand}}}
use Rattle.mars_operations.proofs.operand.evaluate.Goals as goal

-- the operand, by the arm that its mode takes
by_arm : (size pc number : ℕ) (core : List Instr) (mode arm : Mode) (e : Evaluated) → mode ≡ arm → by_mode size core pc arm (plus size pc number) ≡ e → operand size core pc mode number ≡ e
unfolding operand
by_arm size pc number core mode arm e is made = ap (λ (m : Mode). by_mode size core pc m (plus size pc number)) is ∙ made

pub returns-in-Immediate : goal.returns-in-Immediate
returns-in-Immediate g c =
    record {
      value = by_arm _ _ _ _ _ _ _ c.in-Immediate.is
          (ap (λ (o : Operand). evaluated o c.args.core.now) (sym c.found.ensures.value));
      core = c.requires.core;
      pointer = c.found.ensures.pointer;
      target = c.found.ensures.target;
      register = c.found.ensures.register;
    }

pub returns-in-Direct : goal.returns-in-Direct
returns-in-Direct g c =
    record {
      value = by_arm _ _ _ _ _ _ _ c.in-Direct.is
          (ap (λ (n : ℕ). evaluated (found c.args.core.now n) c.args.core.now) (sym c.plus-at.ensures.value) ∙ ap (λ (o : Operand). evaluated o c.args.core.now) (sym c.found-in-Direct.ensures.value));
      core = c.requires.core;
      pointer = c.found-in-Direct.ensures.pointer;
      target = c.found-in-Direct.ensures.target;
      register = c.found-in-Direct.ensures.register;
    }

pub returns-in-AIndirect : goal.returns-in-AIndirect
returns-in-AIndirect g c =
    record {
      value = by_arm _ _ _ _ _ _ _ c.in-AIndirect.is
          (ap (λ (n : ℕ). evaluated (indirect c.args.size c.args.core.now n Field.A) c.args.core.now) (sym c.plus-at.ensures.value) ∙ ap (λ (o : Operand). evaluated o c.args.core.now) (sym c.indirect.ensures.value));
      core = c.requires.core;
      pointer = c.indirect.ensures.pointer;
      target = c.indirect.ensures.target;
      register = c.indirect.ensures.register;
    }

pub returns-in-BIndirect : goal.returns-in-BIndirect
returns-in-BIndirect g c =
    record {
      value = by_arm _ _ _ _ _ _ _ c.in-BIndirect.is
          (ap (λ (n : ℕ). evaluated (indirect c.args.size c.args.core.now n Field.B) c.args.core.now) (sym c.plus-at.ensures.value) ∙ ap (λ (o : Operand). evaluated o c.args.core.now) (sym c.indirect-in-BIndirect.ensures.value));
      core = c.requires.core;
      pointer = c.indirect-in-BIndirect.ensures.pointer;
      target = c.indirect-in-BIndirect.ensures.target;
      register = c.indirect-in-BIndirect.ensures.register;
    }

pub returns-in-APre : goal.returns-in-APre
returns-in-APre g c =
    record {
      value = by_arm _ _ _ _ _ _ _ c.in-APre.is
          (ap (λ (n : ℕ). predecremented c.args.size c.args.core.now n Field.A) (sym c.plus-at.ensures.value) ∙ c.predecremented.ensures.value);
      core = c.predecremented.ensures.core;
      pointer = c.predecremented.ensures.pointer;
      target = c.predecremented.ensures.target;
      register = c.predecremented.ensures.register;
    }

pub returns-in-BPre : goal.returns-in-BPre
returns-in-BPre g c =
    record {
      value = by_arm _ _ _ _ _ _ _ c.in-BPre.is
          (ap (λ (n : ℕ). predecremented c.args.size c.args.core.now n Field.B) (sym c.plus-at.ensures.value) ∙ c.predecremented-in-BPre.ensures.value);
      core = c.predecremented-in-BPre.ensures.core;
      pointer = c.predecremented-in-BPre.ensures.pointer;
      target = c.predecremented-in-BPre.ensures.target;
      register = c.predecremented-in-BPre.ensures.register;
    }

pub returns-in-APost : goal.returns-in-APost
returns-in-APost g c =
    record {
      value = by_arm _ _ _ _ _ _ _ c.in-APost.is
          (ap (λ (n : ℕ). postincremented c.args.size c.args.core.now n Field.A) (sym c.plus-at.ensures.value) ∙ c.postincremented.ensures.value);
      core = c.postincremented.ensures.core;
      pointer = c.postincremented.ensures.pointer;
      target = c.postincremented.ensures.target;
      register = c.postincremented.ensures.register;
    }

pub returns-in-BPost : goal.returns-in-BPost
returns-in-BPost g c =
    record {
      value = by_arm _ _ _ _ _ _ _ c.in-BPost.is
          (ap (λ (n : ℕ). postincremented c.args.size c.args.core.now n Field.B) (sym c.plus-at.ensures.value) ∙ c.postincremented-in-BPost.ensures.value);
      core = c.postincremented-in-BPost.ensures.core;
      pointer = c.postincremented-in-BPost.ensures.pointer;
      target = c.postincremented-in-BPost.ensures.target;
      register = c.postincremented-in-BPost.ensures.register;
    }

-- ---- what the arms require

pub plus-at-requires : goal.plus-at-requires
plus-at-requires g c = record { m = c.requires.pc; n = omega (arith, c.requires.number) }

pub found-requires : goal.found-requires
found-requires g c = record { core = c.requires.core; pointer = c.requires.pc }

pub found-requires-in-Direct : goal.found-requires-in-Direct
found-requires-in-Direct g c = record { core = c.requires.core; pointer = c.plus-at.ensures.below }

pub indirect-requires : goal.indirect-requires
indirect-requires g c = record { core = c.requires.core; address = c.plus-at.ensures.below }

pub indirect-requires-in-BIndirect : goal.indirect-requires-in-BIndirect
indirect-requires-in-BIndirect g c = record { core = c.requires.core; address = c.plus-at.ensures.below }

pub predecremented-requires : goal.predecremented-requires
predecremented-requires g c = record { core = c.requires.core; address = c.plus-at.ensures.below }

pub predecremented-requires-in-BPre : goal.predecremented-requires-in-BPre
predecremented-requires-in-BPre g c = record { core = c.requires.core; address = c.plus-at.ensures.below }

pub postincremented-requires : goal.postincremented-requires
postincremented-requires g c = record { core = c.requires.core; address = c.plus-at.ensures.below }

pub postincremented-requires-in-BPost : goal.postincremented-requires-in-BPost
postincremented-requires-in-BPost g c = record { core = c.requires.core; address = c.plus-at.ensures.below }
