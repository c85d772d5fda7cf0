-- What was answered was delivered.
use Rattle.{std.proofs.Common.is_some, koth_rounds.specs.{Asked.ShowsNone, Trace.{IsTraced, view_of}}, koth_rounds.proofs.Delivered.delivered_ends}
use Rattle.koth_rounds.proofs.trace.trace_asked.Goals as goal

pub returns : goal.returns
returns g c =
    let s = c.args.settings.now in
    let traced = c.args.traced in
    delivered_ends s (view_of traced.form) (IsTraced s traced.round traced.last traced.form) (ShowsNone s traced.round (is_some traced.define)) _ _ _ _ c.trace_under-done.result c.deliver.result
    c.trace_under-done.ensures c.deliver.ensures
