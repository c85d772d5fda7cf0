-- Turns and rounds of small cores, computed by the definitions: cores of 64 cells, the first side's process at 0.
use Rattle.{std.proofs.Common.{◌≡◌, ℕ, List, [], ◌∷◌, ◌++◌, ◌-◌, length, replicate, refl}, war_types.specs.{declared.instr.Op.Op, declared.instr.Modifier.Modifier, declared.instr.Mode.Mode}}
use Rattle.{war_types.specs.{declared.instr.Instr.Instr, declared.settings.RawSettings.RawSettings, Warrior.{WarriorParts, warrior_parts}}, mars_core.specs.{Cells.blank, Operand.operand}}
use Rattle.mars_core.specs.{Effect.effect, Round.{Round, executed, side_turn, after_turn, after_turns, opening, outcome}, declared.round.Side.Side, declared.round.Outcome.Outcome}

abbrev small : RawSettings
small = record { core = 64; cycles = 100; processes = 8; length = 10; distance = 10; rounds = 2; seed = 1; capacity = 2; read_limit = 64; write_limit = 64 }

abbrev instr : Op → Modifier → Mode → ℕ → Mode → ℕ → Instr
instr op modifier a_mode a b_mode b = record { op = op; modifier = modifier; a_mode = a_mode; a = a; b_mode = b_mode; b = b }

abbrev dat : ℕ → ℕ → Instr
dat a b = instr Op.Dat Modifier.F Mode.Direct a Mode.Direct b

-- cells from 0, and none loaded after them
abbrev core_of : List Instr → List Instr
core_of cells = cells ++ replicate (64 - length cells) blank

-- the first side has one process, at 0, and is to move; the second has one at 63
abbrev before : List Instr → Round
before cells = record { settings = small; core = core_of cells; first = 0 ∷ []; second = 63 ∷ []; to_move = Side.First; used = 0 }

abbrev after : List Instr → List ℕ → Round
after core queue = record { settings = small; core = core; first = queue; second = 63 ∷ []; to_move = Side.Second; used = 1 }

-- one turn leaves these cells and this queue
abbrev gives : List Instr → List Instr → List ℕ → Type 0
gives cells left queue = after_turn (before cells) ≡ after (core_of left) queue

-- MOV.I $0,$1
mov_whole : gives ((instr Op.Mov Modifier.I Mode.Direct 0 Mode.Direct 1) ∷ []) ((instr Op.Mov Modifier.I Mode.Direct 0 Mode.Direct 1) ∷ (instr Op.Mov Modifier.I Mode.Direct 0 Mode.Direct 1) ∷ []) (1 ∷ [])
unfolding operand effect executed side_turn after_turn
mov_whole = refl

-- MOV.X $1,$2; DAT.F $3,$4
mov_crosswise : gives ((instr Op.Mov Modifier.X Mode.Direct 1 Mode.Direct 2) ∷ dat 3 4 ∷ []) ((instr Op.Mov Modifier.X Mode.Direct 1 Mode.Direct 2) ∷ dat 3 4 ∷ dat 4 3 ∷ []) (1 ∷ [])
unfolding operand effect executed side_turn after_turn
mov_crosswise = refl

-- ADD.AB #5,$1; DAT.F $0,$62
add_to_b : gives ((instr Op.Add Modifier.AB Mode.Immediate 5 Mode.Direct 1) ∷ dat 0 62 ∷ []) ((instr Op.Add Modifier.AB Mode.Immediate 5 Mode.Direct 1) ∷ dat 0 3 ∷ []) (1 ∷ [])
unfolding operand effect executed side_turn after_turn
add_to_b = refl

-- SUB.F $1,$2; DAT.F $1,$2; DAT.F $0,$5
sub_wraps : gives ((instr Op.Sub Modifier.F Mode.Direct 1 Mode.Direct 2) ∷ dat 1 2 ∷ dat 0 5 ∷ []) ((instr Op.Sub Modifier.F Mode.Direct 1 Mode.Direct 2) ∷ dat 1 2 ∷ dat 63 3 ∷ []) (1 ∷ [])
unfolding operand effect executed side_turn after_turn
sub_wraps = refl

-- MUL.BA $1,$2; DAT.F $0,$10; DAT.F $13,$7
mul_to_a : gives ((instr Op.Mul Modifier.BA Mode.Direct 1 Mode.Direct 2) ∷ dat 0 10 ∷ dat 13 7 ∷ []) ((instr Op.Mul Modifier.BA Mode.Direct 1 Mode.Direct 2) ∷ dat 0 10 ∷ dat 2 7 ∷ []) (1 ∷ [])
unfolding operand effect executed side_turn after_turn
mul_to_a = refl

-- ADD.F *1,$2; DAT.F $2,$0; DAT.F $1,$1; DAT.F $4,$5
add_indirect : gives ((instr Op.Add Modifier.F Mode.AIndirect 1 Mode.Direct 2) ∷ dat 2 0 ∷ dat 1 1 ∷ dat 4 5 ∷ []) ((instr Op.Add Modifier.F Mode.AIndirect 1 Mode.Direct 2) ∷ dat 2 0 ∷ dat 5 6 ∷ dat 4 5 ∷ []) (1 ∷ [])
unfolding operand effect executed side_turn after_turn
add_indirect = refl

-- MOD.X $1,$2; DAT.F $3,$0; DAT.F $7,$8
mod_by_zero : gives ((instr Op.Mdl Modifier.X Mode.Direct 1 Mode.Direct 2) ∷ dat 3 0 ∷ dat 7 8 ∷ []) ((instr Op.Mdl Modifier.X Mode.Direct 1 Mode.Direct 2) ∷ dat 3 0 ∷ dat 7 2 ∷ []) ([])
unfolding operand effect executed side_turn after_turn
mod_by_zero = refl

-- JMP.B @1,$0; DAT.F $0,$4
jmp_indirect : gives ((instr Op.Jmp Modifier.B Mode.BIndirect 1 Mode.Direct 0) ∷ dat 0 4 ∷ []) ((instr Op.Jmp Modifier.B Mode.BIndirect 1 Mode.Direct 0) ∷ dat 0 4 ∷ []) (5 ∷ [])
unfolding operand effect executed side_turn after_turn
jmp_indirect = refl

-- JMZ.F $3,$1; DAT.F $0,$0
jmz_zero : gives ((instr Op.Jmz Modifier.F Mode.Direct 3 Mode.Direct 1) ∷ dat 0 0 ∷ []) ((instr Op.Jmz Modifier.F Mode.Direct 3 Mode.Direct 1) ∷ dat 0 0 ∷ []) (3 ∷ [])
unfolding operand effect executed side_turn after_turn
jmz_zero = refl

-- JMZ.F $3,$1; DAT.F $0,$1
jmz_not_zero : gives ((instr Op.Jmz Modifier.F Mode.Direct 3 Mode.Direct 1) ∷ dat 0 1 ∷ []) ((instr Op.Jmz Modifier.F Mode.Direct 3 Mode.Direct 1) ∷ dat 0 1 ∷ []) (1 ∷ [])
unfolding operand effect executed side_turn after_turn
jmz_not_zero = refl

-- JMN.F $3,$1; DAT.F $0,$1
jmn : gives ((instr Op.Jmn Modifier.F Mode.Direct 3 Mode.Direct 1) ∷ dat 0 1 ∷ []) ((instr Op.Jmn Modifier.F Mode.Direct 3 Mode.Direct 1) ∷ dat 0 1 ∷ []) (3 ∷ [])
unfolding operand effect executed side_turn after_turn
jmn = refl

-- DJN.F $3,$1; DAT.F $1,$1
djn_to_zero : gives ((instr Op.Djn Modifier.F Mode.Direct 3 Mode.Direct 1) ∷ dat 1 1 ∷ []) ((instr Op.Djn Modifier.F Mode.Direct 3 Mode.Direct 1) ∷ dat 0 0 ∷ []) (1 ∷ [])
unfolding operand effect executed side_turn after_turn
djn_to_zero = refl

-- DJN.F $3,$1; DAT.F $1,$0
djn_below_zero : gives ((instr Op.Djn Modifier.F Mode.Direct 3 Mode.Direct 1) ∷ dat 1 0 ∷ []) ((instr Op.Djn Modifier.F Mode.Direct 3 Mode.Direct 1) ∷ dat 0 63 ∷ []) (3 ∷ [])
unfolding operand effect executed side_turn after_turn
djn_below_zero = refl

-- SEQ.I $1,$2; DAT.F $0,$1; DAT.A $0,$1
seq_whole : gives ((instr Op.Seq Modifier.I Mode.Direct 1 Mode.Direct 2) ∷ dat 0 1 ∷ (instr Op.Dat Modifier.A Mode.Direct 0 Mode.Direct 1) ∷ []) ((instr Op.Seq Modifier.I Mode.Direct 1 Mode.Direct 2) ∷ dat 0 1 ∷ (instr Op.Dat Modifier.A Mode.Direct 0 Mode.Direct 1) ∷ []) (1 ∷ [])
unfolding operand effect executed side_turn after_turn
seq_whole = refl

-- SNE.I $1,$2; DAT.F $0,$1; DAT.A $0,$1
sne_whole : gives ((instr Op.Sne Modifier.I Mode.Direct 1 Mode.Direct 2) ∷ dat 0 1 ∷ (instr Op.Dat Modifier.A Mode.Direct 0 Mode.Direct 1) ∷ []) ((instr Op.Sne Modifier.I Mode.Direct 1 Mode.Direct 2) ∷ dat 0 1 ∷ (instr Op.Dat Modifier.A Mode.Direct 0 Mode.Direct 1) ∷ []) (2 ∷ [])
unfolding operand effect executed side_turn after_turn
sne_whole = refl

-- SLT.X $1,$2; DAT.F $1,$2; DAT.F $3,$2
slt_crosswise : gives ((instr Op.Slt Modifier.X Mode.Direct 1 Mode.Direct 2) ∷ dat 1 2 ∷ dat 3 2 ∷ []) ((instr Op.Slt Modifier.X Mode.Direct 1 Mode.Direct 2) ∷ dat 1 2 ∷ dat 3 2 ∷ []) (2 ∷ [])
unfolding operand effect executed side_turn after_turn
slt_crosswise = refl

-- SPL.B $5,$0
spl : gives ((instr Op.Spl Modifier.B Mode.Direct 5 Mode.Direct 0) ∷ []) ((instr Op.Spl Modifier.B Mode.Direct 5 Mode.Direct 0) ∷ []) (1 ∷ 5 ∷ [])
unfolding operand effect executed side_turn after_turn
spl = refl

-- NOP.F >1,<2
nop_side_effects : gives ((instr Op.Nop Modifier.F Mode.BPost 1 Mode.BPre 2) ∷ []) ((instr Op.Nop Modifier.F Mode.BPost 1 Mode.BPre 2) ∷ dat 0 1 ∷ dat 0 63 ∷ []) (1 ∷ [])
unfolding operand effect executed side_turn after_turn
nop_side_effects = refl

-- DAT.F <1,$0
dat_predecrements : gives ((instr Op.Dat Modifier.F Mode.BPre 1 Mode.Direct 0) ∷ []) ((instr Op.Dat Modifier.F Mode.BPre 1 Mode.Direct 0) ∷ dat 0 63 ∷ []) ([])
unfolding operand effect executed side_turn after_turn
dat_predecrements = refl

-- MOV.I }1,$2; DAT.F $5,$0
mov_postincrement : gives ((instr Op.Mov Modifier.I Mode.APost 1 Mode.Direct 2) ∷ dat 5 0 ∷ []) ((instr Op.Mov Modifier.I Mode.APost 1 Mode.Direct 2) ∷ dat 6 0 ∷ []) (1 ∷ [])
unfolding operand effect executed side_turn after_turn
mov_postincrement = refl

-- MOV.B {1,$2; DAT.F $1,$9
mov_predecrement : gives ((instr Op.Mov Modifier.B Mode.APre 1 Mode.Direct 2) ∷ dat 1 9 ∷ []) ((instr Op.Mov Modifier.B Mode.APre 1 Mode.Direct 2) ∷ dat 0 9 ∷ dat 0 9 ∷ []) (1 ∷ [])
unfolding operand effect executed side_turn after_turn
mov_predecrement = refl

-- ADD.B >0,#5
add_reads_b_late : gives ((instr Op.Add Modifier.B Mode.BPost 0 Mode.Immediate 5) ∷ []) ((instr Op.Add Modifier.B Mode.BPost 0 Mode.Immediate 6) ∷ []) (1 ∷ [])
unfolding operand effect executed side_turn after_turn
add_reads_b_late = refl

-- ---- under limits: reading within 16 cells, writing within 8

abbrev limited : RawSettings
limited = record small { read_limit = 16; write_limit = 8 }

abbrev gives_within : List Instr → List Instr → List ℕ → Type 0
gives_within cells left queue = after_turn (record (before cells) { settings = limited }) ≡ record (after (core_of left) queue) { settings = limited }

-- cells from 0, one at 61, and none else
abbrev and_61 : List Instr → Instr → List Instr
and_61 cells last = cells ++ replicate (61 - length cells) blank ++ last ∷ []

-- MOV.I $20,$5; DAT.F $0,$0; DAT.F $0,$0; DAT.F $0,$0; DAT.F $7,$9
mov_folded : gives_within ((instr Op.Mov Modifier.I Mode.Direct 20 Mode.Direct 5) ∷ blank ∷ blank ∷ blank ∷ dat 7 9 ∷ []) (and_61 ((instr Op.Mov Modifier.I Mode.Direct 20 Mode.Direct 5) ∷ blank ∷ blank ∷ blank ∷ dat 7 9 ∷ []) (dat 7 9)) (1 ∷ [])
unfolding operand effect executed side_turn after_turn
mov_folded = refl

-- JMP.B $12,$0
jmp_behind : gives_within ((instr Op.Jmp Modifier.B Mode.Direct 12 Mode.Direct 0) ∷ []) ((instr Op.Jmp Modifier.B Mode.Direct 12 Mode.Direct 0) ∷ []) (60 ∷ [])
unfolding operand effect executed side_turn after_turn
jmp_behind = refl

-- JMP.B $8,$0
jmp_ahead : gives_within ((instr Op.Jmp Modifier.B Mode.Direct 8 Mode.Direct 0) ∷ []) ((instr Op.Jmp Modifier.B Mode.Direct 8 Mode.Direct 0) ∷ []) (8 ∷ [])
unfolding operand effect executed side_turn after_turn
jmp_ahead = refl

-- MOV.I <5,$1; four times DAT.F $0,$0; DAT.F $3,$0
predecrement_folded : gives_within ((instr Op.Mov Modifier.I Mode.BPre 5 Mode.Direct 1) ∷ blank ∷ blank ∷ blank ∷ blank ∷ dat 3 0 ∷ [])
    (and_61 ((instr Op.Mov Modifier.I Mode.BPre 5 Mode.Direct 1) ∷ dat 3 0 ∷ blank ∷ blank ∷ blank ∷ dat 3 0 ∷ []) (dat 0 63)) (1 ∷ [])
unfolding operand effect executed side_turn after_turn
predecrement_folded = refl

-- DJN.B $3,$5; four times DAT.F $0,$0; DAT.F $0,$1
djn_folded : gives_within ((instr Op.Djn Modifier.B Mode.Direct 3 Mode.Direct 5) ∷ blank ∷ blank ∷ blank ∷ blank ∷ dat 0 1 ∷ [])
    (and_61 ((instr Op.Djn Modifier.B Mode.Direct 3 Mode.Direct 5) ∷ blank ∷ blank ∷ blank ∷ blank ∷ dat 0 1 ∷ []) (dat 0 63)) (1 ∷ [])
unfolding operand effect executed side_turn after_turn
djn_folded = refl

abbrev warrior_of : Instr → WarriorParts
warrior_of i = warrior_parts (i ∷ []) 0 [] []

-- JMP 0
abbrev stay : Instr
stay = instr Op.Jmp Modifier.B Mode.Direct 0 Mode.Direct 0

-- a round of two short warriors, the second at 10, after `n` turns
abbrev round_of : Instr → Instr → ℕ → Round
round_of first second turns = after_turns turns (opening small (warrior_of first) (warrior_of second) 10 Side.First)

first_dies : outcome (round_of (dat 0 0) stay 5) ≡ Outcome.Second
unfolding operand effect executed side_turn after_turn after_turns
first_dies = refl

-- it is over after that turn, and stays as it is
first_dies-used : (round_of (dat 0 0) stay 5).used ≡ 1
unfolding operand effect executed side_turn after_turn after_turns
first_dies-used = refl

second_dies : outcome (round_of stay (dat 0 0) 5) ≡ Outcome.First
unfolding operand effect executed side_turn after_turn after_turns
second_dies = refl

nobody_dies : outcome (round_of stay stay 5) ≡ Outcome.Tie
unfolding operand effect executed side_turn after_turn after_turns
nobody_dies = refl

-- the sides move in turn
nobody_dies-used : (round_of stay stay 5).used ≡ 5
unfolding operand effect executed side_turn after_turn after_turns
nobody_dies-used = refl

-- SPL.B $5,$0, if the side may have one process
one_process : (after_turn (record { settings = (record small { processes = 1 }); core = core_of (instr Op.Spl Modifier.B Mode.Direct 5 Mode.Direct 0 ∷ []); first = 0 ∷ []; second = 63 ∷ []; to_move = Side.First; used = 0 })).first ≡ 1 ∷ []
unfolding operand effect executed side_turn after_turn
one_process = refl
