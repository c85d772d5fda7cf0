use Rattle.{std.proofs.Common.{◌≡◌, ℕ, List, slice_set, sym, ap, ap₂, ◌∙◌, arith}, war_types.specs.declared.instr.Instr.Instr}
use Rattle.{mars_words.specs.{Numbers.{plus, minus, number, with_number}, Code.field_of}, mars_core.specs.{Cells.cell, Operand.{evaluated, lowered_at, indirect}, Code.pointers_of}}
use Rattle.mars_core.proofs.limits.Within.predecremented.Goals as goal

pub returns-clause-value : goal.returns-clause-value
returns-clause-value g c =
    let field = field_of c.args.field in
    let through : ℕ = c.plus-through.result in
    let held : Instr = cell c.args.core.now through in
    let size : c.args.size ≡ c.args.self.size = sym c.requires.size in
    let at : through ≡ plus c.args.self.size c.args.pc c.args.p.write = c.plus-through.ensures.value ∙ ap (λ (n : ℕ). plus n c.args.pc c.args.p.write) size in
    let lowered : c.minus-lowered.result ≡ minus c.args.size (number field held) 1 = c.minus-lowered.ensures.value ∙ ap (λ (n : ℕ). minus c.args.size n 1) (c.number.ensures.value ∙ ap (number field) c.cell.ensures.value) in
    let core : c.put_number.new.self ≡ lowered_at c.args.self.size c.args.core.now (plus c.args.self.size c.args.pc c.args.p.write) field =
    c.put_number.ensures.value ∙ (ap (λ (n : ℕ). slice_set c.args.core.now through (with_number field n held)) lowered ∙ (λ t. lowered_at (size t) c.args.core.now (at t) field)) in
    sym (ap₂ evaluated (c.indirect.ensures.value ∙ ap (λ (core : List Instr). indirect c.args.self core c.args.pc field (pointers_of c.args.p)) core) core)

pub plus-through-requires : goal.plus-through-requires
plus-through-requires g c = record { m = c.requires.pc; n = omega (arith, c.requires.write) }

pub cell-requires : goal.cell-requires
cell-requires g c = record { core = c.requires.core; address = c.plus-through.ensures.below }

pub minus-lowered-requires : goal.minus-lowered-requires
minus-lowered-requires g c = record { m = c.number.ensures.below c.args.size c.cell.ensures.numbers; n = c.requires.core.some }

pub put_number-requires : goal.put_number-requires
put_number-requires g c = record { core = c.requires.core; address = c.plus-through.ensures.below; number = c.minus-lowered.ensures.below }

pub indirect-requires : goal.indirect-requires
indirect-requires g c = record { size = c.requires.size; core = c.put_number.ensures.core; pc = c.requires.pc; read = c.requires.read; write = c.requires.write }
