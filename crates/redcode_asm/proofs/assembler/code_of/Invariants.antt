-- The code so far and that of the lines left are the code of all.
use Rattle.{std.proofs.Common.{◌≡◌, ◌++◌, drop}, redcode_asm.specs.Assembly.code_of}
use Rattle.redcode_asm.proofs.assembler.code_of.Given as goal

abbrev pub invariant-loop-statement : goal.invariant-loop-statement
invariant-loop-statement g l = l.code.items ++ code_of (drop l.statement-index l.said) ≡ code_of l.said
