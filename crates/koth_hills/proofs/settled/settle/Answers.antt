-- The verdict is the one that the source is due.
use Rattle.std.proofs.Common.{◌∙◌, None, Some, IfSome, ap, refl, subst, sym}
use Rattle.{koth_hill.specs.Kept.verdict_kept, hill_store.specs.Submission.IsBegun, koth_hills.{specs.Json.IsDue, proofs.Lines.{is_line, unplaced}}}
use Rattle.koth_hills.proofs.settled.settle.Goals as goal

pub returns-in-Some-Ok-clause-due : goal.returns-in-Some-Ok-clause-due
returns-in-Some-Ok-clause-due g c =
    let submission = c.in-Some-Ok.submission in
    let is = c.in-Some-Ok.is ∙ ap (λ r. Some r) c.in-Some-Ok.field-0-is in
    let begun = subst (IsBegun g.D.Device.facts None c.args.store.now c.args.source.now) is c.begin.ensures.begun in
    subst (λ j. IfSome j (IsDue c.args.store.now.hill c.args.source.now)) (sym c.finished.ensures.judged) (submission.warrior, begun.0, refl)

pub returns-in-Some-Ok-clause-placed : goal.returns-in-Some-Ok-clause-placed
returns-in-Some-Ok-clause-placed g c =
    let submission = c.in-Some-Ok.submission in
    let is = c.in-Some-Ok.is ∙ ap (λ r. Some r) c.in-Some-Ok.field-0-is in
    let begun = subst (IsBegun g.D.Device.facts None c.args.store.now c.args.source.now) is c.begin.ensures.begun in
    let hill = c.args.store.now.hill in
    is_line c.args.view hill c.args.source.now (verdict_kept hill submission.warrior) c.finished.result.reply c.finished.result.placed.items
    (submission.warrior, begun.0, refl) c.finished.ensures.placed

pub returns-in-Some-Err-clause-placed : goal.returns-in-Some-Err-clause-placed
returns-in-Some-Err-clause-placed g c =
    let is = c.in-Some-Err.is ∙ ap (λ r. Some r) c.in-Some-Err.field-0-is in
    unplaced g.D.Device.facts c.args.store.now c.args.source.now c.args.view c.in-Some-Err.reply _
    (subst (IsBegun g.D.Device.facts None c.args.store.now c.args.source.now) is c.begin.ensures.begun)
