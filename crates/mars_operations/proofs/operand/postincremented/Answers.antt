use Rattle.{std.proofs.Common.{◌≡◌, ℕ, slice_set, sym, ap, ap₂, ◌∙◌}, war_types.specs.declared.instr.Instr.Instr}
use Rattle.{mars_words.specs.{Numbers.{plus, number, with_number}, Code.field_of}, mars_operations.specs.{Cells.cell, Operand.{evaluated, raised_at}}}
use Rattle.mars_operations.proofs.operand.postincremented.Goals as goal

pub returns-clause-value : goal.returns-clause-value
returns-clause-value g c =
    let field = field_of c.args.field in
    let held : Instr = cell c.args.core.now c.args.at in
    let raised : c.plus-raised.result ≡ plus c.args.size (number field held) 1 = c.plus-raised.ensures.value ∙ ap (λ (n : ℕ). plus c.args.size n 1) (c.number.ensures.value ∙ ap (number field) c.cell.ensures.value) in
    let core : c.put_number.new.self ≡ raised_at c.args.size c.args.core.now c.args.at field =
    c.put_number.ensures.value ∙ ap (λ (n : ℕ). slice_set c.args.core.now c.args.at (with_number field n held)) raised in
    sym (ap₂ evaluated (c.indirect-operand.ensures.value) core)

pub cell-requires : goal.cell-requires
cell-requires g c = record { core = c.requires.core; address = c.requires.address }

pub plus-raised-requires : goal.plus-raised-requires
plus-raised-requires g c = record { m = c.number.ensures.below c.args.size c.cell.ensures.numbers; n = c.requires.core.some }

pub put_number-requires : goal.put_number-requires
put_number-requires g c = record { core = c.requires.core; address = c.requires.address; number = c.plus-raised.ensures.below }

pub indirect-operand-requires : goal.indirect-operand-requires
indirect-operand-requires g c = record { core = c.requires.core; address = c.requires.address }
