-- The line of an instruction in a load text.
use Rattle.std.specs.Prelude.{ℕ, ◌-◌, ◌*◌, nat_lt, if◌then◌else◌, List, ◌∷◌, ◌++◌, length, replicate, codes, decimal}
use Rattle.{war_types.specs.{declared.instr.Instr.Instr, declared.instr.Mode.Mode}, redcode_text.specs.Vocabulary.{op_text, modifier_text, mode_text}}

abbrev pub spaces : ℕ → List ℕ
spaces n = replicate n 32

-- a number below the core size, as the one of its remainder class nearest to 0
abbrev pub signed_number : ℕ → ℕ → List ℕ
signed_number core n = if nat_lt core (2 * n) then 45 ∷ decimal (core - n) else decimal n

-- a text at the left, or at the right, of `places` places
abbrev pub left_in : ℕ → List ℕ → List ℕ
left_in places text = text ++ spaces (places - length text)

abbrev pub right_in : ℕ → List ℕ → List ℕ
right_in places text = spaces (places - length text) ++ text

abbrev pub operand_text : ℕ → Mode → ℕ → List ℕ
operand_text core mode number = mode_text mode ++ right_in 6 (signed_number core number)

-- operation and modifier left in 7 places, then both operands, and a line feed
unfoldable pub instr_line : ℕ → Instr → List ℕ
instr_line core i =
    left_in 7 (op_text i.op ++ codes "." ++ modifier_text i.modifier)
    ++ operand_text core i.a_mode i.a ++ codes ", " ++ operand_text core i.b_mode i.b ++ codes "\n"
