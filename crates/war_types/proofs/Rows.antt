-- Instructions and titles as bytes, computed by the definition.
use Rattle.std.proofs.Common.{◌≡◌, [], ◌∷◌, codes, replicate, refl}
use Rattle.war_types.specs.{Bytes.instr_bytes, Title.stored_title, declared.instr.Op.Op, declared.instr.Modifier.Modifier, declared.instr.Mode.Mode}

-- MOV.I $0,$1
move : instr_bytes (record { op = Op.Mov; modifier = Modifier.I; a_mode = Mode.Direct; a = 0; b_mode = Mode.Direct; b = 1 }) ≡ 1 ∷ 6 ∷ 1 ∷ 1 ∷ 0 ∷ 0 ∷ 0 ∷ 1 ∷ []
move = refl

-- JMP.B $0,$0
jump : instr_bytes (record { op = Op.Jmp; modifier = Modifier.B; a_mode = Mode.Direct; a = 0; b_mode = Mode.Direct; b = 0 }) ≡ 7 ∷ 1 ∷ 1 ∷ 1 ∷ 0 ∷ 0 ∷ 0 ∷ 0 ∷ []
jump = refl

-- DAT.F <513,}7999: the higher byte of each number first
data_far : instr_bytes (record { op = Op.Dat; modifier = Modifier.F; a_mode = Mode.BPre; a = 513; b_mode = Mode.APost; b = 7999 }) ≡ 0 ∷ 4 ∷ 5 ∷ 6 ∷ 2 ∷ 1 ∷ 31 ∷ 63 ∷ []
data_far = refl

imp : stored_title (codes "Imp") ≡ 73 ∷ 109 ∷ 112 ∷ replicate 45 0
imp = refl
