-- What was written out gives the warrior or the refusal that is due.
use Rattle.{std.proofs.{lemmas.Grind.common_steps, Common.{Result, Ok, Err, arith, subst, sym}}, war_types.specs.{declared.fault.AsmFault.AsmFault, Warrior.WarriorParts}}
use Rattle.{redcode_asm.specs.Assembly.{Assembles}, redcode_asm.proofs.Shown.{assembly-due, assembly-fails}}
use Rattle.redcode_diagnosis.proofs.assembled.assemble_in.Goals as goal

pub returns-in-Ok-warrior_from-clause-assembled : goal.returns-in-Ok-warrior_from-clause-assembled
returns-in-Ok-warrior_from-clause-assembled g c =
    let due = assembly-due c.args.settings.now c.args.source.now c.in-Ok.expanded c.in-Ok.ensures.gives in
    subst (λ (r : Result WarriorParts AsmFault). Assembles (Ok c.in-Ok-warrior_from.warrior) r) (sym due) c.in-Ok-warrior_from.ensures.assembled

pub returns-in-Err-warrior_from-clause-assembled : goal.returns-in-Err-warrior_from-clause-assembled
returns-in-Err-warrior_from-clause-assembled g c =
    let due = assembly-due c.args.settings.now c.args.source.now c.in-Ok.expanded c.in-Ok.ensures.gives in
    subst (λ (r : Result WarriorParts AsmFault). Assembles (Err c.in-Err-warrior_from.fault) r) (sym due) c.in-Err-warrior_from.ensures.assembled

pub returns-in-Err-clause-assembled : goal.returns-in-Err-clause-assembled
returns-in-Err-clause-assembled g c =
    let fails = assembly-fails c.args.settings.now c.args.source.now c.in-Err.fault c.in-Err.ensures.gives in
    grind (arith, common_steps)
