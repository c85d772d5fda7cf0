-- Turns as events and events as pictures, of small cores: 64 cells, the first side's process at 0, the second's at 63.
use Rattle.{std.proofs.Common.{◌≡◌, ℕ, List, [], ◌∷◌, ◌++◌, ◌-◌, length, replicate, true, false, refl, sym, ap, subst, arith}, war_types.specs.{declared.instr.Op.Op, declared.instr.Modifier.Modifier, declared.instr.Mode.Mode}}
use Rattle.war_types.specs.{declared.instr.Instr.Instr, declared.settings.RawSettings.RawSettings, Warrior.{WarriorParts, warrior_parts}}
use Rattle.mars_core.specs.{Cells.blank, Operand.operand, Effect.{are_equal, effect}, Round.{Round, executed, side_turn, after_turn, after_turns}, declared.round.Side.Side}
use Rattle.koth_replay.specs.{Picture.{picture, picture_of, drawn}, Turn.{core_events, turn_events}, Replay.{begun, turns_in}, Story.{IsFall, IsKept}, declared.event.Event.Event, declared.story.Writer.Writer}

abbrev small : RawSettings
small = record { core = 64; cycles = 100; processes = 8; length = 10; distance = 10; rounds = 2; seed = 1; capacity = 2; read_limit = 64; write_limit = 64 }

abbrev instr : Op → Modifier → Mode → ℕ → Mode → ℕ → Instr
instr op modifier a_mode a b_mode b = record { op = op; modifier = modifier; a_mode = a_mode; a = a; b_mode = b_mode; b = b }

abbrev direct : Op → Modifier → ℕ → ℕ → Instr
direct op modifier a b = instr op modifier Mode.Direct a Mode.Direct b

abbrev core_of : List Instr → List Instr
core_of cells = cells ++ replicate (64 - length cells) blank

-- the first side is to move, with these processes
abbrev before : List Instr → List ℕ → Round
before cells queue = record { settings = small; core = core_of cells; first = queue; second = 63 ∷ []; to_move = Side.First; used = 0 }

-- MOV.I $0,$1
abbrev imp : Instr
imp = direct Op.Mov Modifier.I 0 1

-- ---- what is told of a turn

imp_moves : turn_events (before (imp ∷ []) (0 ∷ [])) ≡ Event.Turn Side.First 0 ∷ Event.Cell 1 imp ∷ Event.Process 1 ∷ []
unfolding operand effect executed side_turn after_turn turn_events
imp_moves = refl

-- MOV.I $0,$1 before another one: it writes what is there
imp_follows : turn_events (before (imp ∷ imp ∷ []) (0 ∷ [])) ≡ Event.Turn Side.First 0 ∷ Event.Process 1 ∷ []
unfolding operand effect executed side_turn after_turn turn_events
imp_follows = refl

-- the first of a dwarf: ADD.AB #4,$3 changes the bomb, DAT.F #0,#0
abbrev dwarf : List Instr
dwarf =
    instr Op.Add Modifier.AB Mode.Immediate 4 Mode.Direct 3
    ∷ instr Op.Mov Modifier.I Mode.Direct 2 Mode.BIndirect 2
    ∷ direct Op.Jmp Modifier.B 62 0
    ∷ instr Op.Dat Modifier.F Mode.Immediate 0 Mode.Immediate 0
    ∷ []

dwarf_adds : turn_events (before dwarf (0 ∷ [])) ≡ Event.Turn Side.First 0 ∷ Event.Cell 3 (instr Op.Dat Modifier.F Mode.Immediate 0 Mode.Immediate 4) ∷ Event.Process 1 ∷ []
unfolding operand effect executed side_turn after_turn turn_events
dwarf_adds = refl

-- SPL.B $5,$0 while another process waits
split_adds : turn_events (before (direct Op.Spl Modifier.B 5 0 ∷ []) (0 ∷ 7 ∷ [])) ≡ Event.Turn Side.First 0 ∷ Event.Process 1 ∷ Event.Process 5 ∷ []
unfolding operand effect executed side_turn after_turn turn_events
split_adds = refl

-- and with room for one more: eight processes at most
split_is_short : turn_events (before (direct Op.Spl Modifier.B 5 0 ∷ []) (0 ∷ replicate 7 9)) ≡ Event.Turn Side.First 0 ∷ Event.Process 1 ∷ []
unfolding operand effect executed side_turn after_turn turn_events
split_is_short = refl

-- DAT.F $0,$0 ends its process, here with another one left
dat_ends : turn_events (before [] (0 ∷ 7 ∷ [])) ≡ Event.Turn Side.First 0 ∷ []
unfolding operand effect executed side_turn after_turn turn_events
dat_ends = refl

-- NOP.F >1,<2 changes two cells
nop_changes : turn_events (before (instr Op.Nop Modifier.F Mode.BPost 1 Mode.BPre 2 ∷ []) (0 ∷ [])) ≡
    Event.Turn Side.First 0 ∷ Event.Cell 1 (direct Op.Dat Modifier.F 0 1) ∷ Event.Cell 2 (direct Op.Dat Modifier.F 0 63) ∷ Event.Process 1 ∷ []
unfolding operand effect executed side_turn after_turn turn_events
nop_changes = refl

-- ---- what events draw

-- two turns, of three cells
two_turns : drawn (picture (blank ∷ blank ∷ imp ∷ []) (0 ∷ 2 ∷ []) (1 ∷ []) Side.First)
    (Event.Turn Side.First 0 ∷ Event.Cell 1 imp ∷ Event.Process 1 ∷ Event.Process 5 ∷ Event.Turn Side.Second 1 ∷ Event.Cell 0 imp ∷ []) ≡
    picture (imp ∷ imp ∷ imp ∷ []) (2 ∷ 1 ∷ 5 ∷ []) [] Side.First
two_turns = refl

-- the Imp's first turn
imp_drawn : drawn (picture_of (before (imp ∷ []) (0 ∷ []))) (Event.Turn Side.First 0 ∷ Event.Cell 1 imp ∷ Event.Process 1 ∷ []) ≡ picture (core_of (imp ∷ imp ∷ [])) (1 ∷ []) (63 ∷ []) Side.Second
imp_drawn = refl

-- ---- a round

abbrev alone : Instr → WarriorParts
alone i = warrior_parts (i ∷ []) 0 (65 ∷ []) (65 ∷ [])

-- the second warrior is at 11, by the settings' seed
loaded : core_events 64 (replicate 64 blank) (begun small (alone imp) (alone (direct Op.Jmp Modifier.B 0 0)) 0).core ≡ Event.Cell 0 imp ∷ Event.Cell 11 (direct Op.Jmp Modifier.B 0 0) ∷ []
loaded = refl

-- a warrior of DAT.F $0,$0 ends at once, when it moves first, and in its second turn otherwise
ends_at_once : turns_in small (alone blank) (alone imp) 0 ≡ 1
unfolding operand effect executed side_turn after_turn after_turns
ends_at_once = refl

ends_second : turns_in small (alone blank) (alone imp) 1 ≡ 2
unfolding operand effect executed side_turn after_turn after_turns
ends_second = refl

-- ---- why a round ended

-- the warrior of DAT.F $0,$0 of round 0 ends in turn 1, at 0, where it was loaded
ends_as_loaded : IsFall (begun small (alone blank) (alone imp) 0) (blank ∷ []) (imp ∷ []) 11 (record { side = Side.First; turn = 1; at = 0; instr = blank; writer = Writer.Loaded Side.First })
unfolding operand effect executed side_turn after_turn after_turns
ends_as_loaded = record {
  turn = refl;
  least = omega arith;
  mover = refl;
  process = refl;
  instr = refl;
  writer = (λ n least below. absurd (omega (arith, least, below)), omega arith);
}

-- MOV.I $2,$1 before DAT.F $0,$0: it writes what ends it, DAT.F #0,#0, in turn 1, and executes that in turn 3
abbrev suicide : WarriorParts
suicide = warrior_parts (direct Op.Mov Modifier.I 2 1 ∷ direct Op.Nop Modifier.B 0 0 ∷ instr Op.Dat Modifier.F Mode.Immediate 0 Mode.Immediate 0 ∷ []) 0 (65 ∷ []) (65 ∷ [])

ends_itself : IsFall (begun small suicide (alone imp) 0) suicide.code (imp ∷ []) 11
    (record { side = Side.First; turn = 3; at = 1; instr = instr Op.Dat Modifier.F Mode.Immediate 0 Mode.Immediate 0; writer = Writer.Turn Side.First 1 })
unfolding operand effect executed side_turn after_turn after_turns
ends_itself = record {
  turn = refl;
  least = omega arith;
  mover = refl;
  process = refl;
  instr = refl;
  writer = record {
    least = omega arith;
    earlier = omega arith;
    moves = refl;
    changes = λ same.
        (let differs : true ≡ false = ap (λ (i : Instr). are_equal Modifier.I i (instr Op.Dat Modifier.F Mode.Immediate 0 Mode.Immediate 0)) same in cc);
    last = λ k after below. (let second : k ≡ 2 = omega (arith, after, below) in subst (λ (n : ℕ). IsKept (begun small suicide (alone imp) 0) 1 n) (sym second) refl);
  };
}
