-- Of the code alone: the kinds of instructions that have a handler of their own. Written by `bench/kinds`.
use Rattle.std.specs.Prelude.{ℕ, ◌+◌, ◌*◌, List, [], ◌∷◌}
use Rattle.war_types.specs.{declared.instr.Op.Op, declared.instr.Modifier.Modifier, declared.instr.Mode.Mode, Bytes.{op_code, modifier_code, mode_code}}

-- what an instruction is but for its numbers: its B mode, its A mode, its modifier and its operation in 13 bits
abbrev pub kind : Op → Modifier → Mode → Mode → ℕ
kind op modifier a b = mode_code b + mode_code a * 8 + modifier_code modifier * 64 + op_code op * 512

-- the kinds that have a handler of their own, each at its handler's place; at place 0 stands no kind
unfoldable pub kinds : List ℕ
kinds =
    8192
    ∷ kind Op.Jmp Modifier.A Mode.Direct Mode.BPre
    ∷ kind Op.Spl Modifier.A Mode.Direct Mode.Direct
    ∷ kind Op.Dat Modifier.A Mode.Direct Mode.Direct
    ∷ kind Op.Spl Modifier.A Mode.Immediate Mode.BPre
    ∷ kind Op.Mov Modifier.I Mode.APost Mode.BPost
    ∷ kind Op.Mov Modifier.I Mode.AIndirect Mode.BPost
    ∷ kind Op.Jmp Modifier.A Mode.Direct Mode.Direct
    ∷ kind Op.Spl Modifier.A Mode.Direct Mode.BPre
    ∷ kind Op.Mov Modifier.I Mode.Direct Mode.BPost
    ∷ kind Op.Spl Modifier.A Mode.Immediate Mode.Immediate
    ∷ kind Op.Dat Modifier.A Mode.BPre Mode.BPre
    ∷ kind Op.Spl Modifier.A Mode.BIndirect Mode.Direct
    ∷ kind Op.Mov Modifier.I Mode.Direct Mode.BPre
    ∷ kind Op.Mov Modifier.I Mode.APost Mode.Direct
    ∷ kind Op.Spl Modifier.A Mode.BIndirect Mode.BPre
    ∷ kind Op.Djn Modifier.F Mode.Direct Mode.BPost
    ∷ kind Op.Add Modifier.AB Mode.Immediate Mode.Direct
    ∷ kind Op.Spl Modifier.A Mode.Immediate Mode.Direct
    ∷ kind Op.Spl Modifier.A Mode.Immediate Mode.APre
    ∷ kind Op.Mov Modifier.I Mode.Direct Mode.BIndirect
    ∷ kind Op.Jmn Modifier.B Mode.Direct Mode.Direct
    ∷ kind Op.Jmp Modifier.A Mode.Direct Mode.APre
    ∷ kind Op.Djn Modifier.B Mode.Direct Mode.Immediate
    ∷ kind Op.Add Modifier.F Mode.Direct Mode.Direct
    ∷ kind Op.Dat Modifier.A Mode.Immediate Mode.Immediate
    ∷ kind Op.Mov Modifier.I Mode.Immediate Mode.AIndirect
    ∷ kind Op.Jmp Modifier.A Mode.Direct Mode.BPost
    ∷ kind Op.Mov Modifier.I Mode.BPre Mode.BPre
    ∷ kind Op.Mov Modifier.I Mode.Direct Mode.Direct
    ∷ kind Op.Sne Modifier.I Mode.Direct Mode.Direct
    ∷ kind Op.Sub Modifier.F Mode.Direct Mode.Direct
    ∷ kind Op.Mov Modifier.I Mode.APre Mode.APost
    ∷ kind Op.Djn Modifier.F Mode.Direct Mode.BPre
    ∷ kind Op.Djn Modifier.B Mode.Direct Mode.Direct
    ∷ kind Op.Jmz Modifier.A Mode.Direct Mode.BIndirect
    ∷ kind Op.Jmn Modifier.B Mode.Direct Mode.Immediate
    ∷ kind Op.Dat Modifier.A Mode.Immediate Mode.Direct
    ∷ kind Op.Mov Modifier.I Mode.APre Mode.BPre
    ∷ kind Op.Spl Modifier.A Mode.BIndirect Mode.BPost
    ∷ kind Op.Mov Modifier.I Mode.Direct Mode.APost
    ∷ kind Op.Mov Modifier.I Mode.BIndirect Mode.BPre
    ∷ kind Op.Seq Modifier.I Mode.Direct Mode.Direct
    ∷ kind Op.Jmz Modifier.F Mode.Direct Mode.AIndirect
    ∷ kind Op.Jmp Modifier.A Mode.BIndirect Mode.BPost
    ∷ kind Op.Mov Modifier.I Mode.Immediate Mode.Direct
    ∷ kind Op.Sub Modifier.X Mode.Direct Mode.Direct
    ∷ kind Op.Jmz Modifier.F Mode.Direct Mode.Direct
    ∷ kind Op.Mov Modifier.AB Mode.Immediate Mode.BIndirect
    ∷ kind Op.Jmp Modifier.A Mode.AIndirect Mode.APre
    ∷ kind Op.Mov Modifier.I Mode.Direct Mode.AIndirect
    ∷ kind Op.Slt Modifier.B Mode.Direct Mode.Direct
    ∷ kind Op.Dat Modifier.A Mode.BPre Mode.Direct
    ∷ kind Op.Jmz Modifier.B Mode.Direct Mode.Direct
    ∷ kind Op.Djn Modifier.A Mode.Direct Mode.Direct
    ∷ kind Op.Seq Modifier.BA Mode.BPre Mode.APre
    ∷ kind Op.Jmz Modifier.F Mode.Direct Mode.BIndirect
    ∷ kind Op.Djn Modifier.F Mode.Direct Mode.APost
    ∷ kind Op.Mov Modifier.AB Mode.Immediate Mode.Direct
    ∷ kind Op.Sub Modifier.X Mode.Immediate Mode.Direct
    ∷ kind Op.Jmn Modifier.X Mode.Direct Mode.Direct
    ∷ kind Op.Nop Modifier.A Mode.BIndirect Mode.BPre
    ∷ kind Op.Spl Modifier.A Mode.Direct Mode.APre
    ∷ kind Op.Jmn Modifier.F Mode.Direct Mode.Direct
    ∷ []
