use Rattle.{std.proofs.Common.arith, mars_words.proofs.Words.kind-small}
use Rattle.mars_words.proofs.word.kind_of.Goals as goal

pub returns-clause-small : goal.returns-clause-small
returns-clause-small c = omega (arith, kind-small c.args.i)
