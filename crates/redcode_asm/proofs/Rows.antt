-- The definition computed on small sources, with what it has to give.
use Rattle.{std.proofs.Common.{◌≡◌, ℕ, List, [], Result, Ok, Err, refl, codes}, std.specs.Fmt.digits, war_types.specs.declared.fault.AsmFault.AsmFault}
use Rattle.war_types.specs.{declared.settings.RawSettings.RawSettings, Warrior.WarriorParts, declared.fault.AsmKind.AsmKind, declared.fault.ExprFault.ExprFault}
use Rattle.{redcode_text.specs.Value.value_within, redcode_statement.specs.InstrLine.instr_line, redcode_names.specs.{Equ.replaced, Gives.fault_at}, redcode_expand.specs.Expansion.expansion}
use Rattle.redcode_asm.specs.{Said.said_by, Assembly.assembly, LoadText.load_text}

abbrev defaults : RawSettings
defaults = record { core = 8000; cycles = 80000; processes = 8000; length = 100; distance = 100; rounds = 10; seed = 1; capacity = 20; read_limit = 8000; write_limit = 8000 }

-- the load text of what a source gives, or nothing with the refusal
abbrev printed : Result WarriorParts AsmFault → Result (List ℕ) AsmFault
printed (Ok w) = Ok (load_text 8000 w)
printed (Err fault) = Err fault

abbrev gives : List ℕ → List ℕ → Type 0
gives source text = printed (assembly defaults source) ≡ Ok text

abbrev refused : List ℕ → AsmFault → Type 0
refused source fault = printed (assembly defaults source) ≡ Err fault

abbrev titled : Result WarriorParts AsmFault → List ℕ × List ℕ
titled (Ok w) = (w.name, w.author)
titled (Err fault) = ([], [])

rows :
    (move : gives (codes "MOV 0, 1") (codes "ORG 0\nMOV.I  $     0, $     1\nEND\n")) ×
    (one_operand : gives (codes "DAT 5") (codes "ORG 0\nDAT.F  $     0, $     5\nEND\n")) ×
    (immediate : gives (codes "MOV #1, <2") (codes "ORG 0\nMOV.AB #     1, <     2\nEND\n")) ×
    (slt : gives (codes "SLT 1, #2") (codes "ORG 0\nSLT.B  $     1, #     2\nEND\n")) ×
    (folded : gives (codes "DAT 0, 7999") (codes "ORG 0\nDAT.F  $     0, $    -1\nEND\n")) ×
    (half : gives (codes "DAT 0, 4000") (codes "ORG 0\nDAT.F  $     0, $  4000\nEND\n")) ×
    (largest : gives (codes "dat.i # -9223372036854775807 , > + 9223372036854775807 ; c\n\t;x\norg 0\nEnd 3\nfoo") (codes "ORG 0\nDAT.I  #   193, >  -193\nEND\n")) ×
    (labels : gives (codes "ORG start\nbomb DAT #0, #0\nstart ADD #4, bomb\nMOV bomb, @bomb\nJMP start") (codes "ORG 1\nDAT.F  #     0, #     0\nADD.AB #     4, $    -1\nMOV.I  $    -2, @    -2\nJMP.B  $    -2, $     0\nEND\n")) ×
    (comments : gives (codes "here ; a label\nJMP here ; text\n;assert 1 ; text") (codes "ORG 0\nJMP.B  $     0, $     0\nEND\n")) ×
    (label_behind_all : gives (codes "JMP x\nx") (codes "ORG 0\nJMP.B  $     1, $     0\nEND\n")) ×
    (line_is_absolute : gives (codes "DAT 0\nx DAT CURLINE, x") (codes "ORG 0\nDAT.F  $     0, $     0\nDAT.F  $     1, $     0\nEND\n")) ×
    (redcode_behind : gives (codes "DAT 5\nEND\n;redcode\nDAT 6") (codes "ORG 0\nDAT.F  $     0, $     6\nEND\n")) ×
    (last_org : gives (codes "ORG 99\nORG 0\nDAT 0\nEND 5") (codes "ORG 0\nDAT.F  $     0, $     0\nEND\n")) ×
    (names_are_no_name : gives (codes "DAT 0\n;names Imp\r\n;assert") (codes "ORG 0\nDAT.F  $     0, $     0\nEND\n")) ×
    (empty : refused [] (fault_at 0 AsmKind.Empty)) ×
    (jump : refused (codes "JMP") (fault_at 1 AsmKind.MissingOperand)) ×
    (end_five : refused (codes "DAT 0\nEND 5\n") (fault_at 2 AsmKind.BadStart)) ×
    (overflow : refused (codes "DAT 0\nDAT 9223372036854775808") (fault_at 2 (AsmKind.Expression ExprFault.Overflow))) ×
    (second_label : refused (codes "x DAT 0\nx DAT 1") (fault_at 2 AsmKind.DuplicateName)) ×
    (bad_token : refused (codes "DAT 0 = 1") (fault_at 1 AsmKind.BadToken)) ×
    (pspace : refused (codes "LDP 0, 1") (fault_at 1 AsmKind.Pspace)) ×
    (pin_with_a_bad_token : refused (codes "PIN ?") (fault_at 1 AsmKind.BadToken)) ×
    (bad_modifier : refused (codes "MOV.Q 0, 1") (fault_at 1 AsmKind.BadModifier)) ×
    (third_operand : refused (codes "MOV 0, 1, 2") (fault_at 1 AsmKind.ExtraText)) ×
    (second_missing : refused (codes "MOV 0,,2") (fault_at 1 AsmKind.MissingOperand)) ×
    (not_a_line : refused (codes "FOO 0") (fault_at 1 AsmKind.BadOperation)) ×
    (parted_within_parentheses : refused (codes "MOV (1, 2)") (fault_at 1 (AsmKind.Expression ExprFault.BadExpression))) ×
    (mode_alone : refused (codes "MOV #, 1") (fault_at 1 (AsmKind.Expression ExprFault.BadExpression))) ×
    (unknown_before_extra : refused (codes "MOV foo, 1, 2") (fault_at 1 (AsmKind.Expression ExprFault.UnknownName))) ×
    (a_before_b : refused (codes "MOV 1/0, foo") (fault_at 1 (AsmKind.Expression ExprFault.DivideByZero))) ×
    (unused_end : refused (codes "ORG 0\nDAT 0\nEND foo") (fault_at 3 (AsmKind.Expression ExprFault.UnknownName))) ×
    (walk_first : refused (codes "SPL\nDAT foo\nx\nx") (fault_at 4 AsmKind.DuplicateName)) ×
    (first_false : refused (codes ";assert 1\n;assert 0\n;assert 0\nDAT 0") (fault_at 2 AsmKind.AssertFalse)) ×
    (start_before_assertions : refused (codes ";assert 0\nDAT 0\nEND 1") (fault_at 3 AsmKind.BadStart)) ×
    (prefix_of_labels : refused (codes "ORG start\nbomb DAT #0, #") (fault_at 1 (AsmKind.Expression ExprFault.UnknownName))) ×
    (prefix_within_a_name : refused (codes "ORG start\nbomb DAT #0, #0\nstart ADD #4, bo") (fault_at 3 (AsmKind.Expression ExprFault.UnknownName))) ×
    (prefix_behind_a_comma : refused (codes "ORG start\nbomb DAT #0, #0\nstart ADD #4,") (fault_at 3 AsmKind.MissingOperand)) ×
    (later_equ : gives (codes "a EQU b+1\nb EQU 2\nDAT 0, a*2") (codes "ORG 0\nDAT.F  $     0, $     4\nEND\n")) ×
    (modifier_of_a_body : gives (codes "m EQU .AB 1\nMOV m, 2") (codes "ORG 0\nMOV.AB $     1, $     2\nEND\n")) ×
    (word_in_a_body : refused (codes "DAT foo\nx EQU MOV 0, 1") (fault_at 2 AsmKind.BadEqu)) ×
    (titles : titled (assembly defaults (codes ";name Imp\n;author A. K. Dewdney\nMOV 0,1")) ≡ (codes "Imp", codes "A. K. Dewdney")) ×
    (last_titles : titled (assembly defaults (codes ";name x\n;name\n;Author\ta\n;author b \nDAT\nEND\n;name y")) ≡ (codes "Unnamed", codes "b")) ×
    -- the body of an EQU stands for its name as tokens, and not as a value
    gives (codes "x EQU 3+4\nDAT 0, x*2") (codes "ORG 0\nDAT.F  $     0, $    11\nEND\n")
unfolding assembly expansion replaced said_by value_within load_text instr_line digits
rows = (refl, refl, refl, refl, refl, refl, refl, refl, refl, refl, refl, refl, refl, refl, refl, refl, refl, refl, refl, refl, refl, refl, refl, refl, refl, refl, refl, refl, refl, refl, refl, refl, refl, refl, refl, refl, refl, refl, refl, refl, refl, refl, refl)
