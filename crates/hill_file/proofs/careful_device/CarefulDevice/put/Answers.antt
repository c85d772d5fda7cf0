use Rattle.std.proofs.Common.{inl, inr, refl, subst, [], ◌∷◌, ◌++◌}
use Rattle.hill_file.{specs.{Careful.{HasDone, remembered}, Done.Done}, proofs.Steps.at_err}
use Rattle.hill_file.proofs.careful_device.CarefulDevice.put.Goals as goal

pub returns-in_err-look-clause-goes : goal.returns-in_err-look-clause-goes
returns-in_err-look-clause-goes g c = λ start log on.
    let gone = c.in_err-look.ensures.goes start log on in
    (gone.0, at_err _ c.from_residual.result c.from_residual.ensures.0 (inl gone.1), gone.2)

pub returns-in_err-write-clause-goes : goal.returns-in_err-write-clause-goes
returns-in_err-write-clause-goes g c = λ start log on.
    let gone = c.in_ok-look.ensures.goes start log on in
    let seen = subst (λ xs. HasDone g.F.SectorFile.happened start c.look.new.self (xs ++ log)) gone.1 gone.2 in (
      Done.Tried c.args.n c.args.from.now ∷ Done.Looked (remembered start log) ∷ [],
      at_err _ c.from_residual-in_err-write.result c.from_residual-in_err-write.ensures.0 (inr refl),
      record { history = c.in_err-write.ensures (Done.Looked (remembered start log) ∷ log) seen.history; known = seen.known; careful = (refl, seen.careful); sure = seen.sure; named = seen.named },
    )
