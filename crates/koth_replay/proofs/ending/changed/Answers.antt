use Rattle.std.proofs.Common.{◌∙◌, ap, if◌then◌else◌, Some}
use Rattle.{war_types.specs.declared.instr.Modifier.Modifier, mars_core.specs.Effect.are_equal}
use Rattle.koth_replay.proofs.ending.changed.Goals as goal

pub returns-clause-change : goal.returns-clause-change
returns-clause-change g c =
    c.latest.ensures
    ∙ ap (λ b. if b then c.args.earlier else Some c.args.this) (c.is_same.ensures ∙ (λ t. are_equal Modifier.I (c.held-before.ensures t) (c.held-now.ensures t)))
