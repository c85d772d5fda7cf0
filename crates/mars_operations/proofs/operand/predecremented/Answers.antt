use Rattle.{std.proofs.Common.{◌≡◌, ℕ, List, slice_set, sym, ap, ap₂, ◌∙◌}, war_types.specs.declared.instr.Instr.Instr}
use Rattle.{mars_words.specs.{Numbers.{minus, number, with_number}, Code.field_of}, mars_operations.specs.{Cells.cell, Operand.{evaluated, lowered_at}, Whole.indirect}}
use Rattle.mars_operations.proofs.operand.predecremented.Goals as goal

pub returns-clause-value : goal.returns-clause-value
returns-clause-value g c =
    let field = field_of c.args.field in
    let held : Instr = cell c.args.core.now c.args.at in
    let lowered : c.minus-lowered.result ≡ minus c.args.size (number field held) 1 = c.minus-lowered.ensures.value ∙ ap (λ (n : ℕ). minus c.args.size n 1) (c.number.ensures.value ∙ ap (number field) c.cell.ensures.value) in
    let core : c.put_number.new.self ≡ lowered_at c.args.size c.args.core.now c.args.at field =
    c.put_number.ensures.value ∙ ap (λ (n : ℕ). slice_set c.args.core.now c.args.at (with_number field n held)) lowered in
    sym (ap₂ evaluated (c.indirect.ensures.value ∙ ap (λ (core : List Instr). indirect c.args.size core c.args.at field) core) core)

pub cell-requires : goal.cell-requires
cell-requires g c = record { core = c.requires.core; address = c.requires.address }

pub minus-lowered-requires : goal.minus-lowered-requires
minus-lowered-requires g c = record { m = c.number.ensures.below c.args.size c.cell.ensures.numbers; n = c.requires.core.some }

pub put_number-requires : goal.put_number-requires
put_number-requires g c = record { core = c.requires.core; address = c.requires.address; number = c.minus-lowered.ensures.below }

pub indirect-requires : goal.indirect-requires
indirect-requires g c = record { core = c.put_number.ensures.core; address = c.requires.address }
