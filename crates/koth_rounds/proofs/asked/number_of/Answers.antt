-- The number that is asked for, or the number of the first round that ended so.
use Rattle.{std.proofs.Common.{IfOk, subst, sym}, koth_rounds.specs.Asked.IsNumber, koth_rounds.proofs.Numbers.asked_number}
use Rattle.koth_rounds.proofs.asked.number_of.Goals as goal

pub returns-in-Number : goal.returns-in-Number
returns-in-Number g c = asked_number c.args.settings.now c.args.older.now c.args.younger.now c.args.round c.in-Number.number c.in-Number.is c.requires.round

pub returns-in-Lost : goal.returns-in-Lost
returns-in-Lost g c =
    subst (λ r. IfOk c.number_ended.result (IsNumber c.args.settings.now c.args.older.now c.args.younger.now r)) (sym c.in-Lost.is) c.number_ended.ensures

pub returns-in-Won : goal.returns-in-Won
returns-in-Won g c =
    subst (λ r. IfOk c.number_ended-in-Won.result (IsNumber c.args.settings.now c.args.older.now c.args.younger.now r)) (sym c.in-Won.is) c.number_ended-in-Won.ensures

pub returns-in-Tied : goal.returns-in-Tied
returns-in-Tied g c =
    subst (λ r. IfOk c.number_ended-in-Tied.result (IsNumber c.args.settings.now c.args.older.now c.args.younger.now r)) (sym c.in-Tied.is) c.number_ended-in-Tied.ensures
