-- The text is that of the two warriors, or there is no match.
use Rattle.{std.proofs.Common.{inl, inr}, koth_commands.specs.Streams.is_input, koth_contests.{specs.Fight.{IsFoughtOf, MayBeNoMatch, definition_of}, proofs.{Answered.{answers_none, done_answers, nothing_answers}, Taken.{given_two, some_mapped}}}}
use Rattle.koth_contests.proofs.fight.fight_two.Goals as goal

pub returns-in-Ok-text_of : goal.returns-in-Ok-text_of
returns-in-Ok-text_of g c =
    let s = c.args.settings.now in
    let given = c.args.fighters.now in
    let pair = c.in-Ok.pair in
    let i = g.I.Read.remaining c.args.input.now in
    let k = g.I.Read.remaining c.pair_from.new.input in
    done_answers s c.args.view (IsFoughtOf (definition_of given) s given.older c.args.younger given.each c.args.view i k) (MayBeNoMatch given) c.in-Ok-text_of.text.items
    c.done.result c.done.ensures (record {
      older = pair.older;
      younger = pair.younger;
      taken = c.in-Ok.ensures.taken;
      tells = c.in-Ok-text_of.ensures;
    })

pub returns : goal.returns
returns g c =
    let given = c.args.fighters.now in
    let defined = given_two (definition_of given) c.args.settings.now (is_input given.older) (is_input c.args.younger) c.in-Err.none _ _ c.in-Err.ensures.taken in
    answers_none _ _ _ _ _ (λ was. inr (some_mapped _ given.define (defined was))) c.answer_none.result c.answer_none.ensures

pub returns-then-is_folder_of_rounds : goal.returns-then-is_folder_of_rounds
returns-then-is_folder_of_rounds g c = nothing_answers _ _ _ _ c.no_rounds.result c.no_rounds.ensures (inl (c.is_folder_of_rounds.ensures c.if-is_folder_of_rounds.true))
