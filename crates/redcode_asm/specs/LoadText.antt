-- The load text of a warrior.
use Rattle.std.specs.{Prelude.{ℕ, List, ◌++◌, codes, decimal}, List.flat_map}
use Rattle.{war_types.specs.Warrior.WarriorParts, redcode_statement.specs.InstrLine.instr_line}

-- ORG with the start, a line for each instruction, END
unfoldable pub load_text : ℕ → WarriorParts → List ℕ
load_text core w = codes "ORG " ++ decimal w.start ++ codes "\n" ++ flat_map (instr_line core) w.code ++ codes "END\n"
