use Rattle.std.proofs.{Common.{arith}, lemmas.Grind.{common_steps}}
use Rattle.redcode_define.specs.Define.{defined}
use Rattle.redcode_define.proofs.lines.define.Goals as goal

pub returns-then-source-gt-SOURCE_LIMIT : goal.returns-then-source-gt-SOURCE_LIMIT
unfolding defined
returns-then-source-gt-SOURCE_LIMIT g c = grind (arith, common_steps)

pub returns : goal.returns
unfolding defined
returns g c = grind (arith, common_steps)
