use Rattle.std.proofs.Common.{◌≡◌, ◌⊎◌, inl, subst, sym, false, ◌∙◌, ◌++◌}
use Rattle.hill_file.{specs.Careful.{EachWasWritten, HasDone}, proofs.Steps.{at_each, at_err, named_on}}
use Rattle.hill_file.proofs.careful_device.CarefulDevice.prepare.Goals as goal

pub returns-in_err-freshen-clause-goes : goal.returns-in_err-freshen-clause-goes
returns-in_err-freshen-clause-goes g c = λ start log on.
    let fresh = c.in_err-freshen.ensures.goes start log on in
    (fresh.0, (fresh.1.0, at_err _ c.from_residual.result c.from_residual.ensures.0 tt), fresh.2)

pub returns-clause-goes : goal.returns-clause-goes
returns-clause-goes g c = λ start log on.
    let fresh = c.in_ok-freshen.ensures.goes start log on in
    let name = c.keep_name.ensures.goes start (fresh.0 ++ log) fresh.2 in
    let sure = subst (λ doubt. (doubt ≡ false) ⊎ EachWasWritten c.freshen.new.self.sectors (fresh.0 ++ log)) (sym c.keep_name.ensures.doubt) fresh.1.1 in
    let each = subst (λ n. (c.keep_name.new.self.doubt ≡ false) ⊎ EachWasWritten n (fresh.0 ++ log)) (sym c.keep_name.ensures.size) sure in
    let gone = named_on g.F.SectorFile.happened start log (c.keep_name.new.self.doubt ≡ false) c.keep_name.new.self.sectors c.keep_name.new.self
    fresh.0 name.0 fresh.1.0 each name.1 name.2 in
    (gone.0, (gone.1.0, at_each c.keep_name.result gone.1.1), gone.2)

pub returns-in_err-freshen-clause-quiet : goal.returns-in_err-freshen-clause-quiet
returns-in_err-freshen-clause-quiet g c = λ sure.
    let fresh = c.in_err-freshen.ensures.quiet sure in
    (fresh.0, λ start log on. let gone = fresh.1 start log on in (gone.0, inl gone.1, gone.2))

pub returns-clause-quiet : goal.returns-clause-quiet
returns-clause-quiet g c = λ sure.
    let fresh = c.in_ok-freshen.ensures.quiet sure in (
      c.keep_name.ensures.doubt ∙ fresh.0,
      λ start log on.
          let gone = fresh.1 start log on in
          c.keep_name.ensures.goes start log (subst (λ xs. HasDone g.F.SectorFile.happened start c.freshen.new.self (xs ++ log)) gone.1 gone.2),
    )
