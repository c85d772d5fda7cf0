use Rattle.hill_file.proofs.Taken.{are_all, more_zeros, not_all, one_other}
use Rattle.hill_file.proofs.zeros.require_zeros.Goals as goal

pub returns-then-not-are_zeros-clause-other : goal.returns-then-not-are_zeros-clause-other
returns-then-not-are_zeros-clause-other g c = λ is.
    one_other _ _ _ _ c.loop.invariant c.in_ok-count.ensures.bytes.0 (not_all c.are_zeros.result _ c.are_zeros.ensures c.if-not-are_zeros.true)

pub loop-preserved : goal.loop-preserved
loop-preserved g c = more_zeros _ _ _ _ c.loop.invariant c.in_ok-count.ensures.bytes.0 (are_all c.are_zeros.result _ c.are_zeros.ensures c.if-not-are_zeros.false)
