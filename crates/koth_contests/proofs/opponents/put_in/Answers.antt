-- The path that is put is in the folder.
use Rattle.{std.proofs.{Common.{subst, sym}, lemmas.Result.on_ok_weaker}, koth_contests.specs.Opponents.IsIn}
use Rattle.koth_contests.proofs.opponents.put_in.Goals as goal

pub returns : goal.returns
returns g c =
    let inside : IsIn c.args.folder.now c.as_str.result.now = subst (IsIn c.args.folder.now) (sym c.as_str.ensures.value) c.in_ok-path.ensures in
    on_ok_weaker c.put_one.result (λ is. (_, inside, is)) c.put_one.ensures
