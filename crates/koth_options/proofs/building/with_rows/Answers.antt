-- One command after the other.
use Rattle.std.proofs.Common.{IfOk, subst, sym}
use Rattle.{std.proofs.lemmas.List.Sums.fold_more, koth_options.specs.{Arguments.{with_row}, Commands.IsReadAs}}
use Rattle.koth_options.proofs.building.with_rows.Goals as goal

pub loop-row-preserved : goal.loop-row-preserved
loop-row-preserved c app is =
    let made = c.with_row-command.ensures _ (c.loop-row.invariant app is) in
    subst (λ a. IfOk c.with_row-command.result (IsReadAs a)) (sym (fold_more with_row app c.args.rows.now c.loop-row.row-index _ c.loop-row-test.true)) made
