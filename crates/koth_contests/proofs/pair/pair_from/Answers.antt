-- The older source gives a warrior, and the younger one none.
use Rattle.std.proofs.Common.{inr}
use Rattle.koth_contests.proofs.pair.pair_from.Goals as goal

pub returns-in-Err-warrior_from-clause-taken : goal.returns-in-Err-warrior_from-clause-taken
returns-in-Err-warrior_from-clause-taken g c =
    inr (c.in-Ok.warrior, g.I.Read.remaining c.warrior_from.new.input, c.in-Ok.ensures.taken, c.in-Err-warrior_from.ensures.taken)
