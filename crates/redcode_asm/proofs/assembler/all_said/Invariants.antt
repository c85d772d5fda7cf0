-- What the lines so far say, and what the lines left say, is what all say.
use Rattle.{std.proofs.Common.{◌≡◌, ◌++◌, List, Result, Ok, drop}, war_types.specs.declared.fault.AsmFault.AsmFault, redcode_statement.specs.Chain.◌>>=◌, redcode_asm.specs.Assembly.{Placed, all_said}}
use Rattle.redcode_asm.proofs.assembler.all_said.Given as goal

-- what was said before, and what is still said
abbrev pub with_front : List Placed → Result (List Placed) AsmFault → Result (List Placed) AsmFault
with_front front said = said >>= λ others. Ok (front ++ others)

abbrev pub invariant-loop-entry : goal.invariant-loop-entry
invariant-loop-entry g l = with_front l.all.items (all_said l.settings l.expanded.labels (drop l.entry-index l.expanded.lines)) ≡ all_said l.settings l.expanded.labels l.expanded.lines
