use Rattle.{std.proofs.Common.{◌≡◌, ℕ, slice_set, sym, ap, ap₂, ◌∙◌, arith}, war_types.specs.declared.instr.Instr.Instr}
use Rattle.{mars_words.specs.{Numbers.{plus, number, with_number}, Code.field_of}, mars_core.specs.{Cells.cell, Operand.{evaluated, raised_at}}}
use Rattle.mars_core.proofs.limits.Within.postincremented.Goals as goal

pub returns-clause-value : goal.returns-clause-value
returns-clause-value g c =
    let field = field_of c.args.field in
    let through : ℕ = c.plus-through.result in
    let held : Instr = cell c.args.core.now through in
    let size : c.args.size ≡ c.args.self.size = sym c.requires.size in
    let at : through ≡ plus c.args.self.size c.args.pc c.args.p.write = c.plus-through.ensures.value ∙ ap (λ (n : ℕ). plus n c.args.pc c.args.p.write) size in
    let raised : c.plus-raised.result ≡ plus c.args.size (number field held) 1 = c.plus-raised.ensures.value ∙ ap (λ (n : ℕ). plus c.args.size n 1) (c.number.ensures.value ∙ ap (number field) c.cell.ensures.value) in
    let core : c.put_number.new.self ≡ raised_at c.args.self.size c.args.core.now (plus c.args.self.size c.args.pc c.args.p.write) field =
    c.put_number.ensures.value ∙ (ap (λ (n : ℕ). slice_set c.args.core.now through (with_number field n held)) raised ∙ (λ t. raised_at (size t) c.args.core.now (at t) field)) in
    sym (ap₂ evaluated (c.indirect-operand.ensures.value) core)

pub plus-through-requires : goal.plus-through-requires
plus-through-requires g c = record { m = c.requires.pc; n = omega (arith, c.requires.write) }

pub cell-requires : goal.cell-requires
cell-requires g c = record { core = c.requires.core; address = c.plus-through.ensures.below }

pub plus-raised-requires : goal.plus-raised-requires
plus-raised-requires g c = record { m = c.number.ensures.below c.args.size c.cell.ensures.numbers; n = c.requires.core.some }

pub put_number-requires : goal.put_number-requires
put_number-requires g c = record { core = c.requires.core; address = c.plus-through.ensures.below; number = c.plus-raised.ensures.below }

pub indirect-operand-requires : goal.indirect-operand-requires
indirect-operand-requires g c = record { size = c.requires.size; core = c.requires.core; pc = c.requires.pc; read = c.requires.read; write = c.requires.write }
