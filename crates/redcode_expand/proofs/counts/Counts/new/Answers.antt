use Rattle.{std.proofs.Common.arith, redcode_expand.proofs.Latest.{all-stamped, none-stamped}}
use Rattle.redcode_expand.proofs.counts.Counts.new.Goals as goal

pub returns : goal.returns
returns g c = none-stamped c.args.lines c.in_ok-counts.counts.items (c.in_ok-counts.ensures.items_if_clones_equal (λ y h. grind arith))

pub invariant_of-result : goal.invariant_of-result
invariant_of-result g c = all-stamped c.args.lines c.in_ok-counts.counts.items (c.in_ok-counts.ensures.items_if_clones_equal (λ y h. grind arith))
