use Rattle.std.proofs.{Common.{◌≡◌, ◌<◌, ℕ, length, get_or, replicate, sym, ap, ◌∙◌, length-set, lt_of_lt_of_le, arith}, lemmas.List.get_or_read}
use Rattle.{mars_words.specs.Words.Word, mars_operations.specs.Cells.blank}
use Rattle.mars_operations.proofs.Marks.{AreLeft-next, AreLeft-none, AreCells-none, core_in-none}
use Rattle.mars_operations.proofs.cells.Core.clear.Goals as goal

pub index-requires : goal.index-requires
index-requires g c = omega (arith, c.loop-place.invariant.left.few, c.loop-place-test.true, c.loop-place.self-inside.written.ok.0)

pub index_mut-requires : goal.index_mut-requires
index_mut-requires g c =
    let written = c.loop-place.self-inside.written.items in
    let place = c.loop-place.place in
    let within : place < length written = lt_of_lt_of_le c.loop-place-test.true c.loop-place.invariant.left.few in
    let at : c.from.result ≡ get_or written place 0 = c.from.ensures ∙ get_or_read written place c.index.result.now within c.index.ensures 0 in
    let inside = c.loop-place.invariant.left.inside place c.loop-place-test.true in
    omega (arith, c.loop-place.self-inside.cells.ok.0, at, inside)

pub loop-place-preserved : goal.loop-place-preserved
loop-place-preserved g c =
    let cells = c.loop-place.self-inside.cells.items in
    let written = c.loop-place.self-inside.written.items in
    let place = c.loop-place.place in
    let within : place < length written = lt_of_lt_of_le c.loop-place-test.true c.loop-place.invariant.left.few in
    let at : c.from.result ≡ get_or written place 0 = c.from.ensures ∙ get_or_read written place c.index.result.now within c.index.ensures 0 in
    record {
      small = rw length-set c.loop-place.invariant.small;
      cells = length-set cells c.from.result c.bits-blank.result ∙ c.loop-place.invariant.cells;
      room = c.loop-place.invariant.room ∙ sym (length-set cells c.from.result c.bits-blank.result);
      left = AreLeft-next cells written place c.self.inside.count c.from.result c.bits-blank.result c.loop-place.invariant.left at c.bits-blank.ensures.word
          (ap (λ (w : Word). w.is_marked) c.bits-blank.ensures.value ∙ c.of.ensures.unmarked) (ap (λ (w : Word). w.instr) c.bits-blank.ensures.value ∙ c.of.ensures.instr);
    }

pub invariant_of-self : goal.invariant_of-self
invariant_of-self g c =
    let cells = c.loop-place.self-inside.cells.items in
    let written = c.loop-place.self-inside.written.items in
    let left = c.loop-place.invariant.left in
    AreCells-none cells written c.loop-place.invariant.small c.loop-place.invariant.room left.words left.blanks (AreLeft-none cells written c.loop-place.place c.self.inside.count c.loop-place-test.false left)

pub returns : goal.returns
returns g c =
    let cells = c.loop-place.self-inside.cells.items in
    let written = c.loop-place.self-inside.written.items in
    let left = c.loop-place.invariant.left in
    core_in-none cells left.blanks (AreLeft-none cells written c.loop-place.place c.self.inside.count c.loop-place-test.false left) ∙ ap (λ (n : ℕ). replicate n blank) c.loop-place.invariant.cells
