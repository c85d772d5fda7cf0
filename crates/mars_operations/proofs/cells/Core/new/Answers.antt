use Rattle.{std.proofs.{Common.{◌≡◌, ℕ, replicate, ap, ◌∙◌, List, length, arith}, lemmas.List.length-replicate}, mars_words.specs.Words.Word, mars_operations.specs.{Cells.blank, Marks.core_in}}
use Rattle.mars_operations.proofs.Marks.{core_in-replicate, AreCells-new}
use Rattle.mars_operations.proofs.cells.Core.new.Goals as goal

pub returns : goal.returns
returns g c =
    let cells : c.in_ok-cells.cells.items ≡ replicate c.from.result c.bits.result = c.in_ok-cells.ensures.items_if_clones_equal (λ y is. is) in
    ap core_in cells ∙ (core_in-replicate c.from.result c.bits.result (ap (λ (w : Word). w.instr) c.bits.ensures.value ∙ c.of.ensures.instr) ∙ ap (λ (n : ℕ). replicate n blank) c.from.ensures)

pub invariant_of-result : goal.invariant_of-result
invariant_of-result g c =
    let cells : c.in_ok-cells.cells.items ≡ replicate c.from.result c.bits.result = c.in_ok-cells.ensures.items_if_clones_equal (λ y is. is) in
    let written : c.in_ok-written.written.items ≡ replicate c.from-2.result 0 = c.in_ok-written.ensures.items_if_clones_equal (λ y is. is) in
    let room : length c.in_ok-written.written.items ≡ c.from.result = ap (λ (xs : List ℕ). length xs) written ∙ (length-replicate c.from-2.result 0 ∙ omega arith) in
    AreCells-new c.from.result c.bits.result c.in_ok-cells.cells.items c.in_ok-written.written.items (omega arith) cells room c.bits.ensures.word
    (ap (λ (w : Word). w.is_marked) c.bits.ensures.value ∙ c.of.ensures.unmarked) (ap (λ (w : Word). w.instr) c.bits.ensures.value ∙ c.of.ensures.instr)
