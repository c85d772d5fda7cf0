use Rattle.std.proofs.Common.{refl, [], ◌∷◌, ◌++◌, ◌∙◌, arith}
use Rattle.hill_file.{specs.{Careful.remembered, Done.Done}, proofs.Steps.{at_err, put_again, put_left}}
use Rattle.hill_file.proofs.careful_device.CarefulDevice.put_all.Goals as goal

pub loop-n-init : goal.loop-n-init
loop-n-init g c = (refl, refl, refl, refl, refl, λ start log on. ([], (tt, λ k less. absurd (omega (arith, less))), on))

pub returns-in_err-put-clause-goes : goal.returns-in_err-put-clause-goes
returns-in_err-put-clause-goes g c = λ start log on.
    let gone = c.loop-n.invariant.5 start log on in
    let put = c.in_err-put.ensures.goes start (Done.Read c.loop-n.n c.read.new.to ∷ (gone.0 ++ log))
    (record { history = c.in_ok-read.ensures (gone.0 ++ log) gone.2.history; known = gone.2.known; careful = gone.2.careful; sure = gone.2.sure; named = gone.2.named }) in
    let left = put_left g.F.SectorFile.happened start log c.put.new.self c.loop-n.n c.read.new.to (remembered start (gone.0 ++ log)) gone.0 put.0 put.1 put.2 gone.1.0 in
    (left.0, (left.1, at_err _ c.from_residual-in_err-put.result c.from_residual-in_err-put.ensures.0 tt), left.2)

pub loop-n-preserved : goal.loop-n-preserved
loop-n-preserved g c = (
  c.in_ok-put.ensures.size ∙ c.loop-n.invariant.0,
  c.in_ok-put.ensures.faults ∙ c.loop-n.invariant.1,
  c.in_ok-put.ensures.doubt ∙ c.loop-n.invariant.2,
  c.in_ok-put.ensures.settled ∙ c.loop-n.invariant.3,
  c.in_ok-put.ensures.named ∙ c.loop-n.invariant.4,
  λ start log on.
      let gone = c.loop-n.invariant.5 start log on in
      let put = c.in_ok-put.ensures.goes start (Done.Read c.loop-n.n c.read.new.to ∷ (gone.0 ++ log))
      (record { history = c.in_ok-read.ensures (gone.0 ++ log) gone.2.history; known = gone.2.known; careful = gone.2.careful; sure = gone.2.sure; named = gone.2.named }) in
      put_again g.F.SectorFile.happened start log c.put.new.self c.loop-n.n c.read.new.to (remembered start (gone.0 ++ log)) gone.0 put.0 put.1 put.2 gone.1.0 gone.1.1,
)

pub returns-clause-goes : goal.returns-clause-goes
returns-clause-goes g c = λ start log on.
    let gone = c.loop-n.invariant.5 start log on in
    (gone.0, (gone.1.0, λ k less. gone.1.1 k (omega (arith, less, c.loop-n-test.false))), gone.2)

pub returns-in_err-read-clause-settled : goal.returns-in_err-read-clause-settled
returns-in_err-read-clause-settled g c = c.loop-n.invariant.3

pub returns-in_err-put-clause-settled : goal.returns-in_err-put-clause-settled
returns-in_err-put-clause-settled g c = c.in_err-put.ensures.settled ∙ c.loop-n.invariant.3

pub returns-clause-settled : goal.returns-clause-settled
returns-clause-settled g c = c.loop-n.invariant.3

pub returns-in_err-read-clause-named : goal.returns-in_err-read-clause-named
returns-in_err-read-clause-named g c = c.loop-n.invariant.4

pub returns-in_err-put-clause-named : goal.returns-in_err-put-clause-named
returns-in_err-put-clause-named g c = c.in_err-put.ensures.named ∙ c.loop-n.invariant.4

pub returns-clause-named : goal.returns-clause-named
returns-clause-named g c = c.loop-n.invariant.4
