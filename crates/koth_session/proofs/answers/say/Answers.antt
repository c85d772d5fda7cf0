use Rattle.std.proofs.Common.{arith, sym, true≢false}
use Rattle.koth_session.proofs.answers.say.Goals as goal

pub returns-in-Err : goal.returns-in-Err
returns-in-Err g c = (λ few none. true≢false (sym (c.in-Err.ensures.first (omega (arith, few)) none)), c.in-Err.ensures.same)
