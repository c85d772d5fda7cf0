-- The definition computed on small sources, with what it has to give.
use Rattle.{std.proofs.Common.{◌≡◌, ℕ, List, [], ◌∷◌, ◌==◌, if◌then◌else◌, drop, get_or, map, Result, Ok, Err, refl, codes}, std.specs.Bool.⊤, war_types.specs.declared.fault.AsmFault.AsmFault}
use Rattle.{war_types.specs.{declared.settings.RawSettings.RawSettings, declared.fault.AsmKind.AsmKind}, redcode_text.specs.Tokens.Piece, redcode_lines.specs.declared.line.LineKind.LineKind}
use Rattle.{redcode_names.specs.{Gives.fault_at, Equ.replaced, Name.LabelList}, redcode_expand.specs.Expansion.{Expansion, ExpandedLine, expansion}}

abbrev pub defaults : RawSettings
defaults = record { core = 8000; cycles = 80000; processes = 8000; length = 100; distance = 100; rounds = 10; seed = 1; capacity = 20; read_limit = 8000; write_limit = 8000 }

-- a line by its number, its kind, the instructions before it, its title and the texts of its tokens
abbrev Outline : Type 0
Outline = ℕ × (LineKind × (ℕ × (List ℕ × List (List ℕ))))

-- texts with a blank between each two
abbrev texts : List ℕ → List (List ℕ)
texts [] = [] ∷ []
texts (c ∷ cs) = if c == 32 then [] ∷ texts cs else (c ∷ get_or (texts cs) 0 []) ∷ drop 1 (texts cs)

abbrev pub lined : ℕ → LineKind → ℕ → List ℕ → Outline
lined number kind before tokens = (number, (kind, (before, ([], texts tokens))))

abbrev pub operation : ℕ → ℕ → List ℕ → Outline
operation number before tokens = lined number LineKind.Operation before tokens

abbrev text_of : Piece → List ℕ
text_of token = token.text

abbrev outline_of : ExpandedLine → Outline
outline_of line = (line.source_line, (line.kind, (line.before, (line.title, map text_of line.tokens))))

abbrev outlined : Result Expansion AsmFault → Result (List Outline × LabelList) AsmFault
outlined (Ok e) = Ok (map outline_of e.lines, e.labels)
outlined (Err fault) = Err fault

abbrev pub gives : List ℕ → List Outline → LabelList → Type 0
gives source ls labels = outlined (expansion defaults source) ≡ Ok (ls, labels)

abbrev pub refused : List ℕ → AsmFault → Type 0
refused source fault = outlined (expansion defaults source) ≡ Err fault

-- each of these sources is refused so
abbrev pub AreRefused : List (List ℕ × AsmFault) → Type 0
AreRefused [] = ⊤
AreRefused (row ∷ rows) = refused row.0 row.1 × AreRefused rows

rows :
    (labels_and_lines : gives (codes "ORG start\nbomb DAT #0\nstart b: ADD 4 ; c\n\nJMP x\nx")
    (lined 1 LineKind.Org 0 (codes "ORG start") ∷ operation 2 0 (codes "DAT # 0") ∷ operation 3 1 (codes "ADD 4") ∷ operation 5 2 (codes "JMP x") ∷ []) ((codes "bomb", 0) ∷ (codes "start", 1) ∷ (codes "b", 1) ∷ (codes "x", 3) ∷ [])) ×
    (titles_and_assertions : gives (codes ";name  Imp \n;Author\n;ASSERT\t1,x ;c\n;names\n;assert0\n;assert;x\n; name")
    ((1, (LineKind.Name, (0, (codes "  Imp ", [])))) ∷ (2, (LineKind.Author, (0, ([], [])))) ∷ lined 3 LineKind.Assert 0 (codes "1 , x") ∷ []) []) ×
    (other_lines : gives (codes "here:\nx PIN ?\nLDP\nFOO 0 DAT\nEND\nDAT")
    (lined 1 LineKind.Other 0 (codes ":") ∷ lined 2 LineKind.Other 0 (codes "PIN ?") ∷ operation 3 0 (codes "LDP") ∷ lined 4 LineKind.Other 1 (codes "0 DAT") ∷ lined 5 LineKind.End 1 (codes "END") ∷ []) ((codes "here", 0) ∷ (codes "x", 0) ∷ (codes "FOO", 1) ∷ [])) ×
    (from_redcode : gives (codes "x x\nROF\n ;ReDcOdEx\nDAT\n;redcode\nX NOP\nEND\n;redcode")
    (operation 4 0 (codes "DAT") ∷ operation 6 1 (codes "NOP") ∷ lined 7 LineKind.End 2 (codes "END") ∷ []) ((codes "X", 1) ∷ [])) ×
    -- a name may be defined by a later line, and one body may name another
    (later_name : gives (codes "a EQU b+1\nb EQU 2\nDAT a*2") (operation 3 0 (codes "DAT 2 + 1 * 2") ∷ []) []) ×
    -- the labels before the last one stand at the next instruction; a dot of a body is one of the line
    (labels_before_the_name : gives (codes "DAT\nx: y & m EQU .AB 1\nz MOV m\nORG m")
    (operation 1 0 (codes "DAT") ∷ operation 3 1 (codes "MOV . AB 1") ∷ lined 4 LineKind.Org 2 (codes "ORG . AB 1") ∷ []) ((codes "x", 1) ∷ (codes "y", 1) ∷ (codes "z", 1) ∷ [])) ×
    -- assertions are replaced, commas and all; titles, PIN lines and other lines are not
    (kinds_of_lines : gives (codes ";assert m,m\n;name m\nPIN m\n+ m\nm EQU 1\nEND m")
    (lined 1 LineKind.Assert 0 (codes "1 , 1") ∷ (2, (LineKind.Name, (0, (codes " m", [])))) ∷ lined 3 LineKind.Other 0 (codes "PIN m") ∷ lined 4 LineKind.Other 0 (codes "+ m") ∷ lined 6 LineKind.End 0 (codes "END 1") ∷ []) []) ×
    -- the names after the dot of an operation are the modifier's
    (modifier_left_alone : gives (codes "I EQU 5\nMOV.I I") (operation 2 0 (codes "MOV . I 5") ∷ []) []) ×
    (unused_cycle : gives (codes "a EQU a\nDAT") (operation 2 0 (codes "DAT") ∷ []) []) ×
    -- the body of an EQU stands for the name as tokens, not as a value
    gives (codes "x EQU 3+4 ; seven\nDAT 0, x*2") (operation 2 0 (codes "DAT 0 , 3 + 4 * 2") ∷ []) []
unfolding expansion replaced
rows = (refl, refl, refl, refl, refl, refl, refl, refl, refl, refl)

-- a second definition, a predefined label, a misspelt operation twice, a label twice on a line
names_refused : AreRefused (
    (codes "x DAT 0\nX DAT 0\nx DAT 1", fault_at 3 AsmKind.DuplicateName)
    ∷ (codes "coresize DAT 0\nCORESIZE DAT 0", fault_at 2 AsmKind.DuplicateName)
    ∷ (codes "MVO 0, 1\nMVO 0, 1", fault_at 2 AsmKind.DuplicateName)
    ∷ (codes "x & x : DAT", fault_at 1 AsmKind.DuplicateName) ∷ [])
unfolding expansion replaced
names_refused = (refl, (refl, (refl, (refl, tt))))

-- a cycle, no name, no body, a word in a body, a name twice, a label and a name
equs_refused : AreRefused (
    (codes "a EQU b b\nb EQU a a\nDAT 0, a", fault_at 3 AsmKind.EquLimit)
    ∷ (codes "EQU 3", fault_at 1 AsmKind.BadEqu)
    ∷ (codes "x EQU ; none", fault_at 1 AsmKind.BadEqu)
    ∷ (codes "x EQU 1, pin", fault_at 1 AsmKind.BadEqu)
    ∷ (codes "x EQU 1\nx EQU", fault_at 2 AsmKind.DuplicateName)
    ∷ (codes "x DAT\nx x EQU 1", fault_at 2 AsmKind.DuplicateName) ∷ [])
unfolding expansion replaced
equs_refused = (refl, (refl, (refl, (refl, (refl, (refl, tt))))))
