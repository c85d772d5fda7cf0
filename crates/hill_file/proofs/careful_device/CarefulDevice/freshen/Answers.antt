use Rattle.std.proofs.Common.{inr, subst, sym, ◌++◌}
use Rattle.hill_file.{specs.Careful.EachWasWritten, proofs.Steps.at_ok}
use Rattle.hill_file.proofs.careful_device.CarefulDevice.freshen.Goals as goal

pub returns-then-self-clause-goes : goal.returns-then-self-clause-goes
returns-then-self-clause-goes g c = λ start log on.
    let gone = c.put_all.ensures.goes start log on in
    (gone.0, (gone.1.0, at_ok c.put_all.result (λ each. inr (subst (λ n. EachWasWritten n (gone.0 ++ log)) (sym c.put_all.ensures.size) each)) gone.1.1), gone.2)
