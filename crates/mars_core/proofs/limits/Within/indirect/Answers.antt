use Rattle.std.proofs.Common.{◌≡◌, ℕ, ◌+◌, sym, ap, ap₂, ◌∙◌, ◌≤◌, subst, arith}
use Rattle.{mars_words.specs.{Numbers.{plus, folded, number}, Code.field_of}, mars_core.specs.{Cells.cell, Operand.{Reach, pointers, found_from}}}
use Rattle.mars_core.proofs.limits.Within.indirect.Goals as goal

pub returns-clause-value : goal.returns-clause-value
returns-clause-value g c =
    let core = c.args.core.now in
    let pc : ℕ = c.args.pc in
    let field = field_of c.args.field in
    let size : c.args.size ≡ c.args.self.size = sym c.requires.size in
    let read_limit : c.self.inside.read ≡ c.args.self.read = ap (λ (r : Reach). r.read) c.self.view_is in
    let write_limit : c.self.inside.write ≡ c.args.self.write = ap (λ (r : Reach). r.write) c.self.view_is in
    let read : c.number-read.result ≡ number field (cell core (plus c.args.self.size pc c.args.p.read)) =
    c.number-read.ensures.value ∙ ap (number field) (c.cell.ensures.value ∙ ap (cell core) (c.plus.ensures.value ∙ ap (λ (n : ℕ). plus n pc c.args.p.read) size)) in
    let write : c.number-write.result ≡ number field (cell core (plus c.args.self.size pc c.args.p.write)) =
    c.number-write.ensures.value ∙ ap (number field) (c.cell-2.ensures.value ∙ ap (cell core) (c.plus-2.ensures.value ∙ ap (λ (n : ℕ). plus n pc c.args.p.write) size)) in
    c.found.ensures.value
    ∙ ap₂ (λ (r w : ℕ). found_from c.args.self core pc (pointers r w))
    (c.folded.ensures.value ∙ (λ t. folded (size t) (read_limit t) (c.args.p.read + read t)))
    (c.folded-2.ensures.value ∙ (λ t. folded (size t) (write_limit t) (c.args.p.write + write t)))

pub cell-requires : goal.cell-requires
cell-requires g c = record { core = c.requires.core; address = c.plus.ensures.below }

pub cell-requires-2 : goal.cell-requires-2
cell-requires-2 g c = record { core = c.requires.core; address = c.plus-2.ensures.below }

pub plus-requires : goal.plus-requires
plus-requires g c = record { m = c.requires.pc; n = omega (arith, c.requires.read) }

pub plus-requires-2 : goal.plus-requires-2
plus-requires-2 g c = record { m = c.requires.pc; n = omega (arith, c.requires.write) }

pub folded-requires : goal.folded-requires
folded-requires g c = record { least = c.self.invariant.read_least; most = subst (λ (n : ℕ). c.self.inside.read ≤ n) (ap (λ (r : Reach). r.size) c.self.view_is ∙ c.requires.size) c.self.invariant.read_most }

pub folded-requires-2 : goal.folded-requires-2
folded-requires-2 g c = record { least = c.self.invariant.write_least; most = subst (λ (n : ℕ). c.self.inside.write ≤ n) (ap (λ (r : Reach). r.size) c.self.view_is ∙ c.requires.size) c.self.invariant.write_most }

pub found-requires : goal.found-requires
found-requires g c = record { size = c.requires.size; core = c.requires.core; pc = c.requires.pc; read = c.folded.ensures.below; write = c.folded-2.ensures.below }
