-- Where a source gives no warrior, there is no match.
use Rattle.{std.proofs.Common.{MatchResult, inl, inr, is_some, option_copied, subst}, koth_commands.specs.{Streams.is_input, Trouble.IsReadFault}, koth_contests.{specs.Pair.{IsAnswer, WasUndefined}, proofs.Taken.{given_two, some_mapped}}}
use Rattle.koth_rounds.{specs.{Asked.{HasNone, ShowsNone}, Trace.{IsTraced, view_of}}, proofs.Delivered.{answers_also, answers_none}}
use Rattle.koth_rounds.proofs.trace.trace_under.Goals as goal

pub returns-in-Ok : goal.returns-in-Ok
returns-in-Ok g c =
    let s = c.args.settings.now in
    let traced = c.args.traced in
    answers_also s (view_of traced.form) (IsTraced s traced.round traced.last traced.form) (ShowsNone s traced.round (is_some traced.define))
    (HasNone s traced.round) (λ none. inl none) c.answer_pair.result c.answer_pair.ensures

pub returns-in-Err : goal.returns-in-Err
returns-in-Err g c =
    let s = c.args.settings.now in
    let traced = c.args.traced in
    let defined = given_two (option_copied traced.define) s (is_input traced.older) (is_input traced.younger) c.in-Err.none _ _ c.in-Err.ensures.taken in
    answers_none s (view_of traced.form) (IsTraced s traced.round traced.last traced.form) (ShowsNone s traced.round (is_some traced.define))
    (WasUndefined c.in-Err.none) (λ was. inr (some_mapped _ traced.define (defined was))) c.answer_none.result
    (subst (λ v. MatchResult c.answer_none.result (IsAnswer s v (λ t. ⊥) (WasUndefined c.in-Err.none)) IsReadFault) c.view_of.ensures c.answer_none.ensures)
