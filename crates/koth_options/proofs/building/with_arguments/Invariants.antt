use Rattle.std.proofs.Common.{fold, take, IfOk}
use Rattle.{clap.specs.Words.App, koth_options.specs.{Arguments.with_argument, Commands.IsReadAs}}
use Rattle.koth_options.proofs.building.with_arguments.Given as goal

abbrev pub invariant-loop-argument : goal.invariant-loop-argument
invariant-loop-argument l = (app : App) → IfOk l.fn.command (IsReadAs app) → IfOk l.command (IsReadAs (fold with_argument app (take l.argument-index l.arguments)))
