use Rattle.{std.proofs.{Common.{List, Result, Ok, subst, sym, ap, ◌∙◌}}, war_types.specs.{declared.fault.AsmFault.AsmFault, Warrior.WarriorParts}}
use Rattle.{redcode_statement.specs.Chain.◌>>=◌, redcode_asm.specs.Assembly.{Assembles, Placed, warrior_said}}
use Rattle.redcode_asm.proofs.assembler.warrior_from.Goals as goal

pub returns-clause-assembled : goal.returns-clause-assembled
returns-clause-assembled g c =
    let s = c.args.settings.now in
    let e = c.args.expanded.now in
    let due = ap (λ (m : Result (List Placed) AsmFault). m >>= warrior_said s e.lines) (c.in_ok-said.ensures ∙ ap (λ (said : List Placed). Ok said) (sym c.as_slice.ensures.value)) in
    subst (λ (r : Result WarriorParts AsmFault). Assembles c.warrior_of.result r) (sym due) c.warrior_of.ensures.assembled
