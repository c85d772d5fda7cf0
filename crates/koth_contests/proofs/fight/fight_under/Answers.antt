-- The match of two is told, or the matches of one against many.
use Rattle.{std.proofs.Common.{inl, inr}, koth_contests.{specs.Fight.{IsFought, IsFoughtOf, MayBeNoMatch, definition_of}, proofs.{Answered.{answers_so, delivered_ends}, Fought.fought}}}
use Rattle.koth_contests.proofs.fight.fight_under.Goals as goal

pub returns-in-Some : goal.returns-in-Some
returns-in-Some g c =
    let s = c.args.settings.now in
    let given = c.args.fighters.now in
    let view = c.args.view in
    let i = g.I.Read.remaining c.args.input.now in
    let k = g.I.Read.remaining c.fight_two-done.new.input in
    let younger = c.in-Some.younger in
    let done = answers_so s view (IsFoughtOf (definition_of given) s given.older younger given.each view i k) (MayBeNoMatch given) (IsFought s given.older younger given.each view)
    (fought (definition_of given) s given.older younger given.each view i k) c.fight_two-done.result c.fight_two-done.ensures in
    inl (younger, c.in-Some.ensures, delivered_ends _ _ _ _ _ _ _ _ c.fight_two-done.result c.deliver.result done c.deliver.ensures)

pub returns-in-None : goal.returns-in-None
returns-in-None g c = inr (c.in-None.ensures, c.fight_many.ensures)
