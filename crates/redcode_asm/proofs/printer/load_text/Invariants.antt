-- So far the text has the start and the lines of the instructions that the loop has passed.
use Rattle.{std.proofs.Common.{◌≡◌, ◌++◌, codes, take}, std.specs.{List.flat_map, Fmt.decimal}, redcode_statement.specs.InstrLine.instr_line}
use Rattle.redcode_asm.proofs.printer.load_text.Given as goal

abbrev pub invariant-loop-instr : goal.invariant-loop-instr
invariant-loop-instr g l =
    l.text.items ≡ codes "ORG " ++ decimal l.warrior.start ++ codes "\n" ++ flat_map (instr_line l.core) (take l.instr-index l.instr-items)
