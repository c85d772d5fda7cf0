-- Others stand after those that are told of the source, and all are placed.
use Rattle.redcode_diagnosis.proofs.{Growing.{all_placed, others_told}, Once.once-of}
use Rattle.redcode_diagnosis.proofs.diagnosis.with_further.Goals as goal

pub returns-clause-told : goal.returns-clause-told
returns-clause-told g c =
    others_told _ _ _ _ c.in_ok-put_further.ensures c.in_ok-all.ensures.told (once-of c.args.settings.now c.args.source.now c.args.first)

pub returns-clause-placed : goal.returns-clause-placed
returns-clause-placed g c = all_placed _ _ _ c.in_ok-put_further.ensures c.in_ok-all.ensures.placed
