-- What is known of the source is due.
use Rattle.{std.proofs.Common.{ap, map, ◌∙◌}, war_types.specs.declared.settings.RawSettings.RawSettings}
use Rattle.{redcode_scene.{specs.Faults.faults_known, proofs.Shown.faults-due}, redcode_diagnosis.proofs.Told.told-due}
use Rattle.redcode_diagnosis.proofs.diagnosis.told_within.Goals as goal

pub returns-clause-told : goal.returns-clause-told
returns-clause-told g c =
    let scene = c.in_ok-scene.scene in
    told-due (λ all. map (λ d. d.fault) all.items) _ _ c.told_from.result
    (ap (λ (s : RawSettings). faults_known s c.args.first scene.expanded) c.in_ok-scene.ensures.settings
    ∙ faults-due c.args.settings.now c.args.source.now c.args.first scene.expanded c.in_ok-scene.ensures.knows)
    c.told_from.ensures.told
