use Rattle.std.proofs.Common.{inl, subst, ◌∙◌, ◌∷◌, ◌++◌}
use Rattle.hill_file.{specs.{Careful.IsSure, Done.Done}, proofs.Steps.{at_err, looked_after, synced, writes_none}}
use Rattle.hill_file.proofs.careful_device.CarefulDevice.sync_whole.Goals as goal

pub returns-in_err-prepare-clause-goes : goal.returns-in_err-prepare-clause-goes
returns-in_err-prepare-clause-goes g c = λ start log on.
    let fresh = c.in_err-prepare.ensures.goes start log on in
    (fresh.0, (fresh.1.0, at_err _ c.from_residual.result c.from_residual.ensures.0 tt), fresh.2)

pub returns-in_err-settle-clause-goes : goal.returns-in_err-settle-clause-goes
returns-in_err-settle-clause-goes g c = λ start log on.
    let fresh = c.in_ok-prepare.ensures.goes start log on in (
      Done.Unsynced ∷ fresh.0,
      (fresh.1.0, at_err _ c.from_residual-in_err-settle.result c.from_residual-in_err-settle.ensures.0 tt),
      c.in_err-settle.ensures.goes start (fresh.0 ++ log) fresh.2 fresh.1.1,
    )

pub returns-clause-goes : goal.returns-clause-goes
returns-clause-goes g c = λ start log on.
    let fresh = c.in_ok-prepare.ensures.goes start log on in
    let settled = c.in_ok-settle.ensures.goes start (fresh.0 ++ log) fresh.2 fresh.1.1 in
    let sure = subst (λ n. IsSure start n (Done.Synced ∷ (fresh.0 ++ log))) c.in_ok-prepare.ensures.size settled.1 in
    let named = c.look.ensures.named ∙ c.in_ok-settle.ensures.named ∙ c.in_ok-prepare.ensures.named in
    let last = c.look.ensures.goes start (Done.Synced ∷ (fresh.0 ++ log)) settled.0 in
    synced g.F.SectorFile.happened start log c.args.self.now.sectors c.look.new.self c.look.result fresh.0 last.0 fresh.1.0 sure named last.1 last.2

pub returns-in_err-prepare-clause-quiet : goal.returns-in_err-prepare-clause-quiet
returns-in_err-prepare-clause-quiet g c = λ sure start log on.
    let gone = (c.in_err-prepare.ensures.quiet sure).1 start log on in
    (gone.0, writes_none start log gone.0 gone.1, gone.2)

pub returns-in_err-settle-clause-quiet : goal.returns-in_err-settle-clause-quiet
returns-in_err-settle-clause-quiet g c = λ sure start log on.
    let ready = c.in_ok-prepare.ensures.quiet sure in
    let gone = ready.1 start log on in
    (Done.Unsynced ∷ gone.0, writes_none start log gone.0 gone.1, c.in_err-settle.ensures.goes start (gone.0 ++ log) gone.2 (inl ready.0))

pub returns-clause-quiet : goal.returns-clause-quiet
returns-clause-quiet g c = λ sure start log on.
    let ready = c.in_ok-prepare.ensures.quiet sure in
    let gone = ready.1 start log on in
    let settled = c.in_ok-settle.ensures.goes start (gone.0 ++ log) gone.2 (inl ready.0) in
    let last = c.look.ensures.goes start (Done.Synced ∷ (gone.0 ++ log)) settled.0 in
    looked_after g.F.SectorFile.happened start log c.look.new.self c.look.result gone.0 last.0 (writes_none start log gone.0 gone.1) last.1 last.2
