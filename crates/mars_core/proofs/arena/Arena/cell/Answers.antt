use Rattle.{std.proofs.Common.{ℕ, ◌<◌, ◌≤◌, length, Some, sym, ap, subst, ◌∙◌, arith}, std.specs.Prelude.slice_get, std.proofs.lemmas.Option.{slice_get-get_or, slice_get_past}}
use Rattle.mars_core.specs.{Cells.{cell, blank, IsCore}, Round.Round}
use Rattle.mars_core.proofs.arena.Arena.cell.Goals as goal

pub cell-requires-clause-core : goal.cell-requires-clause-core
cell-requires-clause-core g c = subst (λ (n : ℕ). IsCore n c.self.inside.core) (sym (c.of-size.ensures ∙ c.core-then-at-core.ensures.value)) c.self.invariant.round.core

pub returns-then-at-core-clause-value : goal.returns-then-at-core-clause-value
returns-then-at-core-clause-value g c =
    let core = c.self.inside.core in
    let within : c.args.at < length core = omega arith in
    ap Some (c.instr.ensures ∙ (c.cell.ensures.value ∙ ap (cell core) c.from.ensures))
    ∙ (sym (slice_get-get_or core c.args.at blank within) ∙ ap (λ (r : Round). slice_get r.core c.args.at) c.self.view_is)

pub returns-else-at-core-clause-value : goal.returns-else-at-core-clause-value
returns-else-at-core-clause-value g c =
    let core = c.self.inside.core in
    let past : length core ≤ c.args.at = omega arith in
    sym (slice_get_past core c.args.at past) ∙ ap (λ (r : Round). slice_get r.core c.args.at) c.self.view_is
