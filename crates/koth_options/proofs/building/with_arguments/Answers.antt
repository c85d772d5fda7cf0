-- One argument after the other.
use Rattle.std.proofs.Common.{IfOk, subst, sym}
use Rattle.{std.proofs.lemmas.List.Sums.fold_more, koth_options.specs.{Arguments.with_argument, Commands.IsReadAs}}
use Rattle.koth_options.proofs.building.with_arguments.Goals as goal

pub loop-argument-preserved : goal.loop-argument-preserved
loop-argument-preserved c app is =
    let added = c.with_argument-command.ensures _ (c.loop-argument.invariant app is) in
    subst (λ a. IfOk c.with_argument-command.result (IsReadAs a)) (sym (fold_more with_argument app c.args.arguments.now c.loop-argument.argument-index _ c.loop-argument-test.true)) added
