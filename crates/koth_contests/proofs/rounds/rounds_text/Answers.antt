-- All rounds.
use Rattle.koth_contests.proofs.Due.{each_is}
use Rattle.koth_contests.proofs.rounds.rounds_text.Goals as goal

pub returns : goal.returns
returns g c = each_is c.args.settings.now c.args.older.now c.args.younger.now c.args.view _ (rw c.new-text.ensures.items at c.in_ok-put_rounds.ensures)
