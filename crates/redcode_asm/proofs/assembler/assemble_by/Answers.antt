use Rattle.{std.proofs.{lemmas.Grind.common_steps, Common.{Result, arith, subst, sym}}, war_types.specs.{declared.fault.AsmFault.AsmFault, Warrior.WarriorParts}}
use Rattle.redcode_asm.specs.Assembly.{Assembles}
use Rattle.redcode_asm.proofs.Shown.{assembly-due, assembly-fails}
use Rattle.redcode_asm.proofs.assembler.assemble_by.Goals as goal

pub returns-in_err-expanded-clause-assembled : goal.returns-in_err-expanded-clause-assembled
returns-in_err-expanded-clause-assembled g c =
    let fails = assembly-fails c.args.settings.now c.args.source.now c.in_err-expanded.field-0.0 c.in_err-expanded.ensures.gives in
    grind (arith, common_steps)

pub returns-clause-assembled : goal.returns-clause-assembled
returns-clause-assembled g c =
    let due = assembly-due c.args.settings.now c.args.source.now c.in_ok-expanded.expanded c.in_ok-expanded.ensures.gives in
    subst (λ (r : Result WarriorParts AsmFault). Assembles c.warrior_from.result r) (sym due) c.warrior_from.ensures.assembled
