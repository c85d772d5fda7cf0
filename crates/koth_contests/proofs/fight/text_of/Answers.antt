-- The rounds, or the counts of the match of the two warriors.
use Rattle.std.proofs.{Common.◌∙◌, lemmas.Result.IfOk-weaker}
use Rattle.koth_contests.proofs.Fought.{bout_told}
use Rattle.koth_contests.proofs.fight.text_of.Goals as goal

pub returns-then-each : goal.returns-then-each
returns-then-each g c = rw c.if-each.true c.rounds_text.ensures

pub returns : goal.returns
returns g c =
    let pair = c.args.pair.now in
    rw c.if-each.false (IfOk-weaker c.bout_text.result _ _
    (λ text told. told ∙ bout_told c.args.view pair.older pair.younger _ _ _ _ _ _ c.source_name-first.ensures c.source_name-second.ensures c.fight-bout.ensures.bout)
    c.bout_text.ensures)
