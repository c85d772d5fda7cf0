-- All assertions so far hold.
use Rattle.{std.proofs.Common.{◌≡◌, drop}, redcode_asm.specs.Assembly.all_hold}
use Rattle.redcode_asm.proofs.assembler.check_assertions.Given as goal

abbrev pub invariant-loop-line : goal.invariant-loop-line
invariant-loop-line l = all_hold (drop l.line-index l.said) ≡ all_hold l.said
