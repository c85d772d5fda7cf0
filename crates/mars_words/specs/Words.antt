-- Of the code alone: what a cell holds in 64 bits. No definition of turns and rounds names a word of this file.
use Rattle.std.specs.Prelude.{◌≡◌, ℕ, ◌+◌, ◌*◌, ◌/◌, ◌%◌, ◌^◌, ◌==◌, Bool, true, false, if◌then◌else◌, List, [], ◌∷◌}
use Rattle.war_types.specs.{declared.instr.Op.Op, declared.instr.Modifier.Modifier, declared.instr.Mode.Mode, declared.instr.Instr.Instr, Bytes.{op_code, modifier_code, mode_code}}
use Rattle.mars_words.specs.Kinds.{kind, kinds}

-- what a cell holds: an instruction, and the mark of a cell that was written since its core was cleared
pub record Word : Type 0 where
  pub instr : Instr
  pub is_marked : Bool

abbrev pub mark : Bool → ℕ
mark true = 1
mark false = 0

-- what an instruction is but for its numbers
abbrev pub kind_code : Instr → ℕ
kind_code i = kind i.op i.modifier i.a_mode i.b_mode

abbrev pub mode_at : ℕ → Mode
mode_at n =
    if n == 0 then Mode.Immediate else if n == 1 then Mode.Direct else if n == 2 then Mode.AIndirect else if n == 3 then Mode.BIndirect
    else if n == 4 then Mode.APre else if n == 5 then Mode.BPre else if n == 6 then Mode.APost else Mode.BPost

abbrev pub modifier_at : ℕ → Modifier
modifier_at n =
    if n == 0 then Modifier.A else if n == 1 then Modifier.B else if n == 2 then Modifier.AB else if n == 3 then Modifier.BA
    else if n == 4 then Modifier.F else if n == 5 then Modifier.X else Modifier.I

abbrev pub op_at : ℕ → Op
op_at n =
    if n == 0 then Op.Dat else if n == 1 then Op.Mov else if n == 2 then Op.Add else if n == 3 then Op.Sub else if n == 4 then Op.Mul
    else if n == 5 then Op.Div else if n == 6 then Op.Mdl else if n == 7 then Op.Jmp else if n == 8 then Op.Jmz else if n == 9 then Op.Jmn
    else if n == 10 then Op.Djn else if n == 11 then Op.Seq else if n == 12 then Op.Sne else if n == 13 then Op.Slt else if n == 14 then Op.Spl
    else Op.Nop

-- the operation and the modifier in seven bits, and both modes in six
abbrev pub operation_code : Instr → ℕ
operation_code i = modifier_code i.modifier + op_code i.op * 8

abbrev pub modes_code : Instr → ℕ
modes_code i = mode_code i.b_mode + mode_code i.a_mode * 8

-- the place at which a list has a number, counted on from a place, or 0 if it hasn't
unfoldable pub place_from : ℕ → ℕ → List ℕ → ℕ
place_from n place [] = 0
place_from n place (x ∷ xs) = if x == n then place else place_from n (place + 1) xs

-- the modifier of the same B fields, where no A field is read
abbrev pub by_target : Modifier → Modifier
by_target Modifier.AB = Modifier.B
by_target Modifier.BA = Modifier.A
by_target Modifier.I = Modifier.F
by_target m = m

-- of the modifiers under which an operation does the same, one
abbrev pub same_modifier : Op → Modifier → Modifier
same_modifier Op.Dat m = Modifier.A
same_modifier Op.Jmp m = Modifier.A
same_modifier Op.Spl m = Modifier.A
same_modifier Op.Nop m = Modifier.A
same_modifier Op.Mov m = m
same_modifier Op.Seq m = m
same_modifier Op.Sne m = m
same_modifier Op.Jmz m = by_target m
same_modifier Op.Jmn m = by_target m
same_modifier Op.Djn m = by_target m
same_modifier op Modifier.I = Modifier.F
same_modifier op m = m

-- the same of the code of an operation and its modifier, and of a kind
unfoldable pub same_operation : ℕ → ℕ
same_operation n = modifier_code (same_modifier (op_at (n / 8)) (modifier_at (n % 8))) + n / 8 * 8

unfoldable pub same_kind : ℕ → ℕ
same_kind kind = same_operation (kind / 64) * 64 + kind % 64

-- the number of the handler of a kind, and of an instruction
unfoldable pub handler_at : ℕ → ℕ
handler_at kind = place_from (same_kind kind) 0 kinds

abbrev pub handler_of : Instr → ℕ
handler_of i = handler_at (kind_code i)

-- the bits of a word: from the lowest on the B number and the A number, 16 each, the B mode, the A mode and the
-- modifier, 3 each, the operation, 4, then from bit 57 on the number of its handler, 6, and the mark as the highest of
-- all
abbrev pub bits_of : Word → ℕ
bits_of w =
    w.instr.b + w.instr.a * 2 ^ 16 + mode_code w.instr.b_mode * 2 ^ 32 + mode_code w.instr.a_mode * 2 ^ 35
    + modifier_code w.instr.modifier * 2 ^ 38 + (op_code w.instr.op + handler_of w.instr * 2 ^ 16) * 2 ^ 41 + mark w.is_marked * 2 ^ 63

-- the word in these bits
abbrev pub word_in : ℕ → Word
word_in bits = record {
  instr = record {
    op = op_at (bits / 2 ^ 41 % 16);
    modifier = modifier_at (bits / 2 ^ 38 % 8);
    a_mode = mode_at (bits / 2 ^ 35 % 8);
    a = bits / 2 ^ 16 % 2 ^ 16;
    b_mode = mode_at (bits / 2 ^ 32 % 8);
    b = bits % 2 ^ 16;
  };
  is_marked = bits / 2 ^ 63 == 1;
}

-- these are the bits of a word
abbrev pub IsWord : ℕ → Type 0
IsWord bits = bits_of (word_in bits) ≡ bits

-- immediate or direct
abbrev pub is_plain : Mode → Bool
is_plain Mode.Immediate = true
is_plain Mode.Direct = true
is_plain mode = false
