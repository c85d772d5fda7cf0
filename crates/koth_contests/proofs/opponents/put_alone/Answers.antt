-- A word that stands for one source.
use Rattle.{std.proofs.lemmas.Result.on_ok_weaker, koth_contests.proofs.Found.only}
use Rattle.koth_contests.proofs.opponents.put_alone.Goals as goal

pub returns : goal.returns
returns g c = on_ok_weaker c.put_one.result (λ is. only _ _ _ is) c.put_one.ensures
