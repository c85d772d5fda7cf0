-- One test after the other.
use Rattle.koth_words.proofs.Tests.{first_fails, second_tells}
use Rattle.koth_words.proofs.clear.unclear_sources.Goals as goal

pub returns-in-Some : goal.returns-in-Some
returns-in-Some c = first_fails _ _ c.in-Some.ensures

pub returns : goal.returns
returns c = second_tells _ _ _ c.in_default.ensures c.unclear_contest.ensures
