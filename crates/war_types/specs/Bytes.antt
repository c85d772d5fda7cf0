-- An instruction as eight bytes.
use Rattle.std.specs.{Prelude.{ℕ, List, ◌∷◌, ◌++◌}, Int.bytes_high_first}
use Rattle.war_types.specs.{declared.instr.Op.Op, declared.instr.Modifier.Modifier, declared.instr.Mode.Mode, declared.instr.Instr.Instr}

-- an operation's number, from 0 on, in the order of their type
abbrev pub op_code : Op → ℕ
op_code Op.Dat = 0
op_code Op.Mov = 1
op_code Op.Add = 2
op_code Op.Sub = 3
op_code Op.Mul = 4
op_code Op.Div = 5
op_code Op.Mdl = 6
op_code Op.Jmp = 7
op_code Op.Jmz = 8
op_code Op.Jmn = 9
op_code Op.Djn = 10
op_code Op.Seq = 11
op_code Op.Sne = 12
op_code Op.Slt = 13
op_code Op.Spl = 14
op_code Op.Nop = 15

abbrev pub modifier_code : Modifier → ℕ
modifier_code Modifier.A = 0
modifier_code Modifier.B = 1
modifier_code Modifier.AB = 2
modifier_code Modifier.BA = 3
modifier_code Modifier.F = 4
modifier_code Modifier.X = 5
modifier_code Modifier.I = 6

abbrev pub mode_code : Mode → ℕ
mode_code Mode.Immediate = 0
mode_code Mode.Direct = 1
mode_code Mode.AIndirect = 2
mode_code Mode.BIndirect = 3
mode_code Mode.APre = 4
mode_code Mode.BPre = 5
mode_code Mode.APost = 6
mode_code Mode.BPost = 7

-- operation, modifier, the modes of A and of B, then the numbers of A and of B, each of two bytes, the higher first
abbrev pub instr_bytes : Instr → List ℕ
instr_bytes i = op_code i.op ∷ modifier_code i.modifier ∷ mode_code i.a_mode ∷ mode_code i.b_mode ∷ (bytes_high_first 2 i.a ++ bytes_high_first 2 i.b)
