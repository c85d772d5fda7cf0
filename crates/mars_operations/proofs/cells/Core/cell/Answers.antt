use Rattle.{std.proofs.Common.{ap, ◌∙◌, arith, sym, subst}, mars_words.specs.Words.{Word, IsWord}, mars_operations.proofs.Marks.{inside-core_in, cell-core_in, HasNumbersBelow-cell}}
use Rattle.mars_operations.proofs.cells.Core.cell.Goals as goal

pub index-requires : goal.index-requires
index-requires g c =
    let inside = inside-core_in c.args.size c.args.at c.self.inside.cells.items c.args.self.now c.requires.core c.requires.address c.self.view_is in
    omega (arith, c.self.inside.cells.ok.0, inside)

pub returns-clause-numbers : goal.returns-clause-numbers
returns-clause-numbers g c =
    let inside = inside-core_in c.args.size c.args.at c.self.inside.cells.items c.args.self.now c.requires.core c.requires.address c.self.view_is in
    HasNumbersBelow-cell c.args.size c.args.at c.args.self.now c.in_bits.result.instr c.requires.core c.requires.address
    (ap (λ (w : Word). w.instr) c.in_bits.ensures ∙ cell-core_in c.self.inside.cells.items c.args.at c.index.result.now c.args.self.now inside c.index.ensures c.self.view_is)

pub in_bits-requires : goal.in_bits-requires
in_bits-requires g c =
    let inside = inside-core_in c.args.size c.args.at c.self.inside.cells.items c.args.self.now c.requires.core c.requires.address c.self.view_is in
    subst IsWord (sym c.index.ensures) (c.self.invariant.words c.args.at c.index.result.now inside)

pub returns-clause-value : goal.returns-clause-value
returns-clause-value g c =
    let inside = inside-core_in c.args.size c.args.at c.self.inside.cells.items c.args.self.now c.requires.core c.requires.address c.self.view_is in
    ap (λ (w : Word). w.instr) c.in_bits.ensures ∙ cell-core_in c.self.inside.cells.items c.args.at c.index.result.now c.args.self.now inside c.index.ensures c.self.view_is
