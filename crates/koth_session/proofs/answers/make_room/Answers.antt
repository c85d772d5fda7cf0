use Rattle.std.proofs.Common.{arith, sym, true≢false}
use Rattle.koth_session.proofs.answers.make_room.Goals as goal

pub returns-in-Err-clause-lacks : goal.returns-in-Err-clause-lacks
returns-in-Err-clause-lacks g c = λ none. true≢false (sym (c.in-Err.ensures.first (omega arith) none))
