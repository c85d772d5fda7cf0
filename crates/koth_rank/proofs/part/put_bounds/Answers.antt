-- The options come one after the other.
use Rattle.koth_rank.proofs.Parts.{put_four}
use Rattle.koth_rank.proofs.part.put_bounds.Goals as goal

pub returns : goal.returns
returns g c = put_four _ _ _ _ _ _ _ _ _ c.in_ok-put_option.ensures c.in_ok-put_option-2.ensures c.in_ok-put_option-3.ensures c.in_ok-put_option-4.ensures
