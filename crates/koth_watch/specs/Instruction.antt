-- An instruction in the data of a page: as load text spells it, without the blanks that make columns there.
use Rattle.std.specs.Prelude.{ℕ, ◌-◌, ◌*◌, nat_lt, if◌then◌else◌, List, ◌++◌, codes, decimal}
use Rattle.{war_types.specs.{declared.instr.Instr.Instr, declared.instr.Mode.Mode}, redcode_text.specs.Vocabulary.{op_text, modifier_text, mode_text}}

-- the number nearest to 0 that is equal to this one modulo the size of the core
abbrev pub number_text : ℕ → ℕ → List ℕ
number_text core n = if nat_lt core (2 * n) then codes "-" ++ decimal (core - n) else decimal n

-- the sign of a mode: a `<`, which could end the data, by its number
abbrev pub sign_text : Mode → List ℕ
sign_text Mode.Immediate = mode_text Mode.Immediate
sign_text Mode.Direct = mode_text Mode.Direct
sign_text Mode.AIndirect = mode_text Mode.AIndirect
sign_text Mode.BIndirect = mode_text Mode.BIndirect
sign_text Mode.APre = mode_text Mode.APre
sign_text Mode.BPre = codes "\\u003c"
sign_text Mode.APost = mode_text Mode.APost
sign_text Mode.BPost = mode_text Mode.BPost

unfoldable pub operand_text : ℕ → Mode → ℕ → List ℕ
operand_text core mode n = sign_text mode ++ number_text core n

unfoldable pub instruction_text : ℕ → Instr → List ℕ
instruction_text core i =
    op_text i.op ++ codes "." ++ modifier_text i.modifier ++ codes " " ++ operand_text core i.a_mode i.a ++ codes ", " ++ operand_text core i.b_mode i.b
