-- What was answered was delivered.
use Rattle.{std.proofs.Common.is_some, koth_words.specs.declared.requests.View.View, koth_rounds.specs.{Asked.ShowsNone, Replay.IsPage}, koth_rounds.proofs.Delivered.delivered_ends}
use Rattle.koth_rounds.proofs.replay.replay_asked.Goals as goal

pub returns : goal.returns
returns g c =
    let s = c.args.settings.now in
    let round = c.args.watched.round in
    delivered_ends s View.Plain (IsPage s round (is_some c.args.watched.page)) (ShowsNone s round (is_some c.args.watched.define)) _ _ _ _ c.replay_under-done.result c.deliver.result
    c.replay_under-done.ensures c.deliver.ensures
