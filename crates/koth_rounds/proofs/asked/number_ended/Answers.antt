-- Numbers are counted from 1.
use Rattle.koth_rounds.proofs.Numbers.{first_number}
use Rattle.koth_rounds.proofs.asked.number_ended.Goals as goal

pub returns : goal.returns
returns g c = first_number c.args.settings.now c.args.older.now c.args.younger.now c.args.wanted c.first_round-found.result c.counted_from_1.result
    c.counted_from_1.ensures c.first_round-found.ensures.first
