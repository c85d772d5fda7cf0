-- The store's hill is some hill.
use Rattle.koth_hills.proofs.show.perform_show.Goals as goal
use Rattle.koth_hills.proofs.Shown.{seen_of, warrior_of}

pub returns-in-Ok : goal.returns-in-Ok
returns-in-Ok g c = seen_of c.args.shown c.args.view c.in-Ok.store.hill c.answer_sight.result c.in-None.is c.answer_sight.ensures

pub returns-in-Some : goal.returns-in-Some
returns-in-Some g c =
    warrior_of c.args.shown c.args.view c.in-Some.entry c.in-Ok.store.hill c.hill.result.now c.answer_entry.result c.in-Some.is c.hill.ensures c.answer_entry.ensures
