-- The line has both warriors, and what their sources are called.
use Rattle.{koth_words.specs.declared.requests.View.View, koth_contests.proofs.Written.of_contest}
use Rattle.koth_contests.proofs.fight.bout_object.Goals as goal

pub returns : goal.returns
returns g c =
    of_contest c.contest_line.result View.Json _ _ _ _ _ _ c.contender.ensures c.contender-2.ensures c.of_older.ensures c.contest_line.ensures
