use Rattle.{std.proofs.Common.{◌≡◌, sym, ap, subst, ◌∙◌, arith}, mars_words.specs.Words.{Word, IsWord}, mars_operations.specs.Marks.is_marked}
use Rattle.mars_operations.proofs.Marks.{inside-core_in, is_marked-read, AreCells-set, core_in-set, IsCore-set}
use Rattle.mars_operations.proofs.cells.Core.put.Goals as goal

pub index-requires : goal.index-requires
index-requires g c =
    let inside = inside-core_in c.args.size c.args.at c.self.inside.cells.items c.args.self.now c.requires.core c.requires.address c.self.view_is in
    omega (arith, c.self.inside.cells.ok.0, inside)

pub index_mut-requires : goal.index_mut-requires
index_mut-requires g c =
    let inside = inside-core_in c.args.size c.args.at c.self.inside.cells.items c.args.self.now c.requires.core c.requires.address c.self.view_is in
    omega (arith, c.self.inside.cells.ok.0, inside)

pub in_bits-before-requires : goal.in_bits-before-requires
in_bits-before-requires g c =
    let inside = inside-core_in c.args.size c.args.at c.self.inside.cells.items c.args.self.now c.requires.core c.requires.address c.self.view_is in
    subst IsWord (sym c.index.ensures) (c.self.invariant.words c.args.at c.index.result.now inside)

pub invariant_of-self : goal.invariant_of-self
invariant_of-self g c =
    let cells = c.self.inside.cells.items in
    let inside = inside-core_in c.args.size c.args.at cells c.args.self.now c.requires.core c.requires.address c.self.view_is in
    let read = c.is_marked-then-is_marked in
    let before = is_marked-read cells c.args.at c.index.result.now c.in_bits-before.result read.result _ inside c.index.ensures c.in_bits-before.ensures read.ensures c.if-is_marked-2.true in
    let marked : is_marked c.bits.result ≡ _ = ap (λ (w : Word). w.is_marked) c.bits.ensures.value ∙ sym c.is_marked.ensures ∙ c.if-is_marked.true in
    AreCells-set cells c.self.inside.written.items c.self.inside.count c.args.at c.bits.result c.self.invariant inside c.bits.ensures.word marked before

pub returns-then-is_marked-2-clause-value : goal.returns-then-is_marked-2-clause-value
returns-then-is_marked-2-clause-value g c =
    core_in-set c.self.inside.cells.items c.args.at c.bits.result c.args.self.now c.args.word.instr c.self.view_is (ap (λ (w : Word). w.instr) c.bits.ensures.value)

pub returns-then-is_marked-2-clause-core : goal.returns-then-is_marked-2-clause-core
returns-then-is_marked-2-clause-core g c =
    IsCore-set c.args.size c.args.self.now _ c.args.at c.args.word.instr c.requires.core c.requires.numbers
    (core_in-set c.self.inside.cells.items c.args.at c.bits.result c.args.self.now c.args.word.instr c.self.view_is (ap (λ (w : Word). w.instr) c.bits.ensures.value))
