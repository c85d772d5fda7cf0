use Rattle.{std.proofs.Common.{◌≡◌, ℕ, List, slice_set, ap, ap₂, ◌∙◌}, war_types.specs.declared.instr.Instr.Instr}
use Rattle.{mars_words.specs.{Numbers.{number, with_number}, Pairs.Pair, Code.field_of}, mars_operations.specs.{Cells.cell, Effect.moved}}
use Rattle.mars_operations.proofs.copying.move_to.Goals as goal

-- each number that is put is one of the A register's
pub put-requires-clause-numbers : goal.put-requires-clause-numbers
put-requires-clause-numbers g c =
    let size = c.args.size in
    let half = c.with_number-half.ensures.below size c.cell.ensures.numbers (c.number-in-Two.ensures.below size c.requires.a) in
    c.with_number.ensures.below size half (c.number-in-Two-2.ensures.below size c.requires.a)

pub put_number-requires-clause-number : goal.put_number-requires-clause-number
put_number-requires-clause-number g c = c.number.ensures.below c.args.size c.requires.a

pub returns-in-One-clause-value : goal.returns-in-One-clause-value
returns-in-One-clause-value g c =
    let held = cell c.args.core.now c.args.at in
    c.put_number.ensures.value
    ∙ (ap (λ (n : ℕ). slice_set c.args.core.now c.args.at (with_number (field_of c.in-One.p.target) n held)) c.number.ensures.value ∙ ap (λ (ps : List Pair). slice_set c.args.core.now c.args.at (moved ps c.args.a.instr held)) c.in-One.ensures)

pub returns-in-Two-clause-value : goal.returns-in-Two-clause-value
returns-in-Two-clause-value g c =
    let held = cell c.args.core.now c.args.at in
    let half : c.with_number-half.result.instr ≡ with_number (field_of c.in-Two.p.target) (number (field_of c.in-Two.p.source) c.args.a.instr) held =
    c.with_number-half.ensures.value ∙ ap₂ (with_number (field_of c.in-Two.p.target)) c.number-in-Two.ensures.value c.cell.ensures.value in
    c.put.ensures.value
    ∙ (ap (λ (i : Instr). slice_set c.args.core.now c.args.at i) (c.with_number.ensures.value ∙ ap₂ (with_number (field_of c.in-Two.q.target)) c.number-in-Two-2.ensures.value half)
    ∙ ap (λ (ps : List Pair). slice_set c.args.core.now c.args.at (moved ps c.args.a.instr held)) c.in-Two.ensures)
