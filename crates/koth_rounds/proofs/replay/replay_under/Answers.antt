-- Where a source gives no warrior, there is no match.
use Rattle.{std.proofs.Common.{inl, inr, is_some, option_copied}, koth_words.specs.declared.requests.View.View, koth_commands.specs.Streams.is_input, koth_contests.{specs.Pair.WasUndefined, proofs.Taken.{given_two, some_mapped}}}
use Rattle.koth_rounds.{specs.{Asked.{HasNone, ShowsNone}, Replay.IsPage}, proofs.Delivered.{answers_also, answers_none}}
use Rattle.koth_rounds.proofs.replay.replay_under.Goals as goal

pub returns-in-Ok : goal.returns-in-Ok
returns-in-Ok g c =
    let s = c.args.settings.now in
    let watched = c.args.watched in
    answers_also s View.Plain (IsPage s watched.round (is_some watched.page)) (ShowsNone s watched.round (is_some watched.define))
    (HasNone s watched.round) (λ none. inl none) c.answer_pair.result c.answer_pair.ensures

pub returns-in-Err : goal.returns-in-Err
returns-in-Err g c =
    let s = c.args.settings.now in
    let watched = c.args.watched in
    let defined = given_two (option_copied watched.define) s (is_input watched.older) (is_input watched.younger) c.in-Err.none _ _ c.in-Err.ensures.taken in
    answers_none s View.Plain (IsPage s watched.round (is_some watched.page)) (ShowsNone s watched.round (is_some watched.define))
    (WasUndefined c.in-Err.none) (λ was. inr (some_mapped _ watched.define (defined was))) c.answer_none.result c.answer_none.ensures
