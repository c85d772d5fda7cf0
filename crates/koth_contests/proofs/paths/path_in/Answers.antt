-- The path begins with the folder's name.
use Rattle.std.proofs.lemmas.Result.{IfOk-weaker}
use Rattle.koth_contests.proofs.paths.path_in.Goals as goal

pub returns : goal.returns
returns g c = IfOk-weaker c.joined.result _ _ (λ path is. (_, is)) c.joined.ensures
