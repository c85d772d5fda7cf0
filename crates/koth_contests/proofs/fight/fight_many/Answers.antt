-- Mine's source gives no warrior.
use Rattle.{std.proofs.Common.inr, koth_commands.specs.Streams.is_input, koth_contests.{specs.Fight.definition_of, proofs.{Answered.{answers_none, delivered_ends}, Taken.given_one}}}
use Rattle.koth_contests.proofs.fight.fight_many.Goals as goal

pub returns-in-Err : goal.returns-in-Err
returns-in-Err g c =
    let given = given_one (is_input c.args.fighters.now.older) (definition_of c.args.fighters.now) c.args.settings.now c.in-Err.none _ _ c.in-Err.ensures.taken in
    inr (delivered_ends _ _ _ _ _ _ _ _ c.answer_none-done.result c.deliver.result
    (answers_none _ _ _ _ _ given c.answer_none-done.result c.answer_none-done.ensures) c.deliver.ensures)
