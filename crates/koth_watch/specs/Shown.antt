-- Names, turns and instructions as a sentence has them.
use Rattle.std.specs.Prelude.{ℕ, List, ◌++◌, codes, decimal}
use Rattle.{war_types.specs.{declared.instr.Instr.Instr, declared.instr.Mode.Mode}, redcode_text.specs.Vocabulary.{op_text, modifier_text, mode_text}}
use Rattle.{koth_text.specs.Escape.escaped, koth_watch.specs.{declared.shown.Form.Form, Instruction.number_text}}

-- a name, as it is or as it stands in a page
abbrev pub name_text : Form → List ℕ → List ℕ
name_text Form.Plain name = name
name_text Form.Page name = escaped name

-- a turn by its number; in a page a link to it
unfoldable pub turn_link : ℕ → List ℕ
turn_link n = codes "<a href=\"#" ++ decimal n ++ codes "\">turn " ++ decimal n ++ codes "</a>"

unfoldable pub turn_words : ℕ → List ℕ
turn_words n = codes "turn " ++ decimal n

abbrev pub turn_named : Form → ℕ → List ℕ
turn_named Form.Plain n = turn_words n
turn_named Form.Page n = turn_link n

-- an instruction as load text spells it, without the blanks that make columns there
abbrev pub mode_sign : Form → Mode → List ℕ
mode_sign Form.Plain mode = mode_text mode
mode_sign Form.Page Mode.Immediate = mode_text Mode.Immediate
mode_sign Form.Page Mode.Direct = mode_text Mode.Direct
mode_sign Form.Page Mode.AIndirect = mode_text Mode.AIndirect
mode_sign Form.Page Mode.BIndirect = mode_text Mode.BIndirect
mode_sign Form.Page Mode.APre = mode_text Mode.APre
mode_sign Form.Page Mode.BPre = codes "&lt;"
mode_sign Form.Page Mode.APost = mode_text Mode.APost
mode_sign Form.Page Mode.BPost = codes "&gt;"

unfoldable pub operand_shown : Form → ℕ → Mode → ℕ → List ℕ
operand_shown form core mode n = mode_sign form mode ++ number_text core n

unfoldable pub operation_shown : Instr → List ℕ
operation_shown i = op_text i.op ++ codes "." ++ modifier_text i.modifier ++ codes " "

unfoldable pub instruction_shown : Form → ℕ → Instr → List ℕ
instruction_shown form core i =
    operation_shown i ++ operand_shown form core i.a_mode i.a ++ codes ", " ++ operand_shown form core i.b_mode i.b
