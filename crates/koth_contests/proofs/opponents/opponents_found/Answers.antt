-- One word more.
use Rattle.koth_contests.proofs.Found.{one_word}
use Rattle.koth_contests.proofs.opponents.opponents_found.Goals as goal

pub loop-word-preserved : goal.loop-word-preserved
loop-word-preserved g c =
    one_word c.args.words.now c.loop-word.word-index _ _ _ c.loop-word-test.true c.loop-word.invariant c.in_ok-put_word.ensures
