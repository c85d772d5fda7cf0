use Rattle.std.proofs.{Common.{◌≡◌, ℕ, List, length, set, sym, ap, subst₂, ◌∙◌, length-set, arith, subst}, lemmas.List.with_items_is}
use Rattle.{mars_words.specs.Words.{Word, IsWord}, mars_operations.specs.Marks.{AreCells, is_marked}}
use Rattle.mars_operations.proofs.Marks.{inside-core_in, is_marked-read, room-unmarked, AreCells-set, AreCells-push, core_in-set, IsCore-set}
use Rattle.mars_operations.proofs.cells.Core.put_marked.Goals as goal

pub index-requires : goal.index-requires
index-requires g c =
    let inside = inside-core_in c.args.size c.args.at c.self.inside.cells.items c.args.self.now c.requires.core c.requires.address c.self.view_is in
    omega (arith, c.self.inside.cells.ok.0, inside)

pub index_mut-requires : goal.index_mut-requires
index_mut-requires g c =
    let inside = inside-core_in c.args.size c.args.at c.self.inside.cells.items c.args.self.now c.requires.core c.requires.address c.self.view_is in
    omega (arith, c.self.inside.cells.ok.0, inside)

pub list-requires : goal.list-requires
list-requires g c =
    let cells = c.self.inside.cells.items in
    let inside = inside-core_in c.args.size c.args.at cells c.args.self.now c.requires.core c.requires.address c.self.view_is in
    let before = is_marked-read cells c.args.at c.index.result.now c.in_bits-before.result c.is_marked.result _ inside c.index.ensures c.in_bits-before.ensures c.is_marked.ensures c.if-not-is_marked.true in
    let marked : is_marked c.bits.result ≡ _ = ap (λ (w : Word). w.is_marked) c.bits.ensures.value ∙ c.marked.ensures.mark in
    rw c.as_mut_slice.ensures.value (record { room = room-unmarked cells c.self.inside.written.items c.self.inside.count c.args.at c.bits.result c.self.invariant inside marked before })

pub invariant_of-self : goal.invariant_of-self
invariant_of-self g c =
    let cells = c.self.inside.cells.items in
    let written = c.self.inside.written.items in
    let inside = inside-core_in c.args.size c.args.at cells c.args.self.now c.requires.core c.requires.address c.self.view_is in
    let before = is_marked-read cells c.args.at c.index.result.now c.in_bits-before.result c.is_marked.result _ inside c.index.ensures c.in_bits-before.ensures c.is_marked.ensures c.if-not-is_marked.true in
    let marked : is_marked c.bits.result ≡ _ = ap (λ (w : Word). w.is_marked) c.bits.ensures.value ∙ c.marked.ensures.mark in
    let listed : c.list.new.written ≡ set written c.self.inside.count c.args.at = c.list.ensures.written ∙ ap (λ (xs : List ℕ). set xs c.self.inside.count c.args.at) c.as_mut_slice.ensures.value in
    let kept = with_items_is c.self.inside.written c.list.new.written (ap length listed ∙ (length-set written c.self.inside.count c.args.at ∙ sym c.self.inside.written.ok.0)) in
    subst₂ (AreCells (set cells c.args.at c.bits.result)) (sym (kept ∙ listed)) (sym c.list.ensures.count)
    (AreCells-push cells written c.self.inside.count c.args.at c.bits.result c.self.invariant inside c.bits.ensures.word marked before)

pub invariant_of-self-else-not-is_marked : goal.invariant_of-self-else-not-is_marked
invariant_of-self-else-not-is_marked g c =
    let cells = c.self.inside.cells.items in
    let inside = inside-core_in c.args.size c.args.at cells c.args.self.now c.requires.core c.requires.address c.self.view_is in
    let before = is_marked-read cells c.args.at c.index.result.now c.in_bits-before.result c.is_marked.result _ inside c.index.ensures c.in_bits-before.ensures c.is_marked.ensures c.if-not-is_marked.false in
    let marked : is_marked c.bits.result ≡ _ = ap (λ (w : Word). w.is_marked) c.bits.ensures.value ∙ c.marked.ensures.mark in
    AreCells-set cells c.self.inside.written.items c.self.inside.count c.args.at c.bits.result c.self.invariant inside c.bits.ensures.word marked before

pub returns-then-not-is_marked-clause-value : goal.returns-then-not-is_marked-clause-value
returns-then-not-is_marked-clause-value g c =
    core_in-set c.self.inside.cells.items c.args.at c.bits.result c.args.self.now c.args.word.instr c.self.view_is (ap (λ (w : Word). w.instr) c.bits.ensures.value ∙ c.marked.ensures.instr)

pub returns-then-not-is_marked-clause-core : goal.returns-then-not-is_marked-clause-core
returns-then-not-is_marked-clause-core g c =
    IsCore-set c.args.size c.args.self.now _ c.args.at c.args.word.instr c.requires.core c.requires.numbers
    (core_in-set c.self.inside.cells.items c.args.at c.bits.result c.args.self.now c.args.word.instr c.self.view_is (ap (λ (w : Word). w.instr) c.bits.ensures.value ∙ c.marked.ensures.instr))

pub returns-else-not-is_marked-clause-value : goal.returns-else-not-is_marked-clause-value
returns-else-not-is_marked-clause-value g c =
    core_in-set c.self.inside.cells.items c.args.at c.bits.result c.args.self.now c.args.word.instr c.self.view_is (ap (λ (w : Word). w.instr) c.bits.ensures.value ∙ c.marked.ensures.instr)

pub returns-else-not-is_marked-clause-core : goal.returns-else-not-is_marked-clause-core
returns-else-not-is_marked-clause-core g c =
    IsCore-set c.args.size c.args.self.now _ c.args.at c.args.word.instr c.requires.core c.requires.numbers
    (core_in-set c.self.inside.cells.items c.args.at c.bits.result c.args.self.now c.args.word.instr c.self.view_is (ap (λ (w : Word). w.instr) c.bits.ensures.value ∙ c.marked.ensures.instr))

pub in_bits-before-requires : goal.in_bits-before-requires
in_bits-before-requires g c =
    let inside = inside-core_in c.args.size c.args.at c.self.inside.cells.items c.args.self.now c.requires.core c.requires.address c.self.view_is in
    subst IsWord (sym c.index.ensures) (c.self.invariant.words c.args.at c.index.result.now inside)
