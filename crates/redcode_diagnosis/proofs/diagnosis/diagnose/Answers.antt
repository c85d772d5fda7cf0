-- All that are told begin with the one that the assembler answers.
use Rattle.{std.proofs.Common.map, redcode_asm.specs.Assembly.assembly, redcode_diagnosis.proofs.Told.all-tells}
use Rattle.redcode_diagnosis.proofs.diagnosis.diagnose.Goals as goal

pub returns-clause-told : goal.returns-clause-told
returns-clause-told g c =
    all-tells (λ all. map (λ d. d.fault) all.items) c.args.settings.now c.args.source.now (assembly c.args.settings.now c.args.source.now) c.diagnoses.result c.diagnoses.ensures.told
