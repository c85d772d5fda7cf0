use Rattle.std.proofs.Common.{fold, take, IfOk}
use Rattle.{clap.specs.Words.App, koth_options.specs.{Arguments.with_row, Commands.IsReadAs}}
use Rattle.koth_options.proofs.building.with_rows.Given as goal

abbrev pub invariant-loop-row : goal.invariant-loop-row
invariant-loop-row l = (app : App) → IfOk l.fn.command (IsReadAs app) → IfOk l.command (IsReadAs (fold with_row app (take l.row-index l.rows)))
