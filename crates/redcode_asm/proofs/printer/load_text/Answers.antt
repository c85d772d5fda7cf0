use Rattle.{std.proofs.{Common.arith, lemmas.Grind.common_steps}, redcode_asm.specs.LoadText.load_text, redcode_asm.proofs.RoundTrip.AssemblesTo-load_text}
use Rattle.redcode_asm.proofs.printer.load_text.Goals as goal

pub returns-clause-reads_back : goal.returns-clause-reads_back
unfolding load_text
returns-clause-reads_back g c = AssemblesTo-load_text c.args.core _ c.args.warrior.now (grind (arith, common_steps))
