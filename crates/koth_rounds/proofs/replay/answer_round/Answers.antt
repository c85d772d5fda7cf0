-- The page of the round, or that there is none.
use Rattle.std.proofs.Common.{inr}
use Rattle.koth_rounds.proofs.replay.answer_round.Goals as goal

pub answer_number-requires-clause-has : goal.answer_number-requires-clause-has
answer_number-requires-clause-has g c = (rw c.in-Some.is at c.in_ok-found.ensures).1

pub answer_number-requires-clause-shown : goal.answer_number-requires-clause-shown
answer_number-requires-clause-shown g c = (rw c.in-Some.is at c.in_ok-found.ensures).0

pub returns-in_ok-note-in-None : goal.returns-in_ok-note-in-None
returns-in_ok-note-in-None g c = inr (
  record {
    older = c.args.pair.now.older;
    younger = c.args.pair.now.younger;
    older_comes = c.requires.pair.older;
    younger_comes = c.requires.pair.younger;
    none = rw c.in-None.is at c.in_ok-found.ensures;
  },
  c.new.ensures.items,
)
