-- All pairs are left, and they are not too many.
use Rattle.koth_standings.proofs.Left.{all_left, few_pairs}
use Rattle.koth_standings.proofs.pairs.Pairs.of.Goals as goal

pub returns-clause-left : goal.returns-clause-left
returns-clause-left c = all_left c.args.places

pub returns-clause-few : goal.returns-clause-few
returns-clause-few c = few_pairs c.args.places
