-- The vocabulary: reserved words, modifiers and modes, as the 1994 draft standard spells them. Upper and lower case are one.
use Rattle.std.specs.{Prelude.{ℕ, Bool, if◌then◌else◌, List, [], ◌∷◌, map, Option, Some, None, codes}, Char.to_ascii_lowercase, Str.bytes_eq}
use Rattle.{war_types.specs.{declared.instr.Op.Op, declared.instr.Modifier.Modifier, declared.instr.Mode.Mode}, redcode_text.specs.declared.vocabulary.Word.Word}

-- the same word in whatever letter case
abbrev pub is_word : List ℕ → List ℕ → Bool
is_word word text = bytes_eq (map to_ascii_lowercase text) (map to_ascii_lowercase word)

-- the entry whose word the text is
abbrev pub named : {X : Type 0} → List (List ℕ × X) → List ℕ → Option X
named [] text = None
named (e ∷ es) text = if is_word e.0 text then Some e.1 else named es text

-- the words that are no operation of the machine
abbrev pub other_words : List (List ℕ × Word)
other_words =
    (codes "LDP", Word.Pspace) ∷ (codes "STP", Word.Pspace) ∷ (codes "EQU", Word.Equ) ∷ (codes "FOR", Word.For)
    ∷ (codes "ROF", Word.Rof) ∷ (codes "ORG", Word.Org) ∷ (codes "END", Word.End) ∷ (codes "PIN", Word.Pin) ∷ []

-- the reserved words
abbrev pub reserved_words : List (List ℕ × Word)
reserved_words =
    (codes "DAT", Word.Operation Op.Dat) ∷ (codes "MOV", Word.Operation Op.Mov) ∷ (codes "ADD", Word.Operation Op.Add) ∷ (codes "SUB", Word.Operation Op.Sub)
    ∷ (codes "MUL", Word.Operation Op.Mul) ∷ (codes "DIV", Word.Operation Op.Div) ∷ (codes "MOD", Word.Operation Op.Mdl) ∷ (codes "JMP", Word.Operation Op.Jmp)
    ∷ (codes "JMZ", Word.Operation Op.Jmz) ∷ (codes "JMN", Word.Operation Op.Jmn) ∷ (codes "DJN", Word.Operation Op.Djn) ∷ (codes "CMP", Word.Operation Op.Seq)
    ∷ (codes "SEQ", Word.Operation Op.Seq) ∷ (codes "SNE", Word.Operation Op.Sne) ∷ (codes "SLT", Word.Operation Op.Slt) ∷ (codes "SPL", Word.Operation Op.Spl)
    ∷ (codes "NOP", Word.Operation Op.Nop) ∷ other_words

-- the reserved word that a name is
abbrev pub word_of : List ℕ → Option Word
word_of text = named reserved_words text

abbrev pub modifier_names : List (List ℕ × Modifier)
modifier_names =
    (codes "A", Modifier.A) ∷ (codes "B", Modifier.B) ∷ (codes "AB", Modifier.AB) ∷ (codes "BA", Modifier.BA)
    ∷ (codes "F", Modifier.F) ∷ (codes "X", Modifier.X) ∷ (codes "I", Modifier.I) ∷ []

abbrev pub mode_names : List (List ℕ × Mode)
mode_names =
    (codes "#", Mode.Immediate) ∷ (codes "$", Mode.Direct) ∷ (codes "*", Mode.AIndirect) ∷ (codes "@", Mode.BIndirect)
    ∷ (codes "{", Mode.APre) ∷ (codes "<", Mode.BPre) ∷ (codes "}", Mode.APost) ∷ (codes ">", Mode.BPost) ∷ []

abbrev pub op_text : Op → List ℕ
op_text Op.Dat = codes "DAT"
op_text Op.Mov = codes "MOV"
op_text Op.Add = codes "ADD"
op_text Op.Sub = codes "SUB"
op_text Op.Mul = codes "MUL"
op_text Op.Div = codes "DIV"
op_text Op.Mdl = codes "MOD"
op_text Op.Jmp = codes "JMP"
op_text Op.Jmz = codes "JMZ"
op_text Op.Jmn = codes "JMN"
op_text Op.Djn = codes "DJN"
op_text Op.Seq = codes "SEQ"
op_text Op.Sne = codes "SNE"
op_text Op.Slt = codes "SLT"
op_text Op.Spl = codes "SPL"
op_text Op.Nop = codes "NOP"

abbrev pub modifier_text : Modifier → List ℕ
modifier_text Modifier.A = codes "A"
modifier_text Modifier.B = codes "B"
modifier_text Modifier.AB = codes "AB"
modifier_text Modifier.BA = codes "BA"
modifier_text Modifier.F = codes "F"
modifier_text Modifier.X = codes "X"
modifier_text Modifier.I = codes "I"

abbrev pub mode_text : Mode → List ℕ
mode_text Mode.Immediate = codes "#"
mode_text Mode.Direct = codes "$"
mode_text Mode.AIndirect = codes "*"
mode_text Mode.BIndirect = codes "@"
mode_text Mode.APre = codes "{"
mode_text Mode.BPre = codes "<"
mode_text Mode.APost = codes "}"
mode_text Mode.BPost = codes ">"
