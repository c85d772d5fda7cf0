-- The instruction that a line gives.
use Rattle.std.specs.Prelude.{ℕ, ◌-◌, ◌%◌, Bool, true, false, if◌then◌else◌, List, [], ◌∷◌, Option, Some, None, Result, Ok, Err, ℤ, pos, negsuc, unwrap_or, codes}
use Rattle.war_types.specs.{declared.fault.AsmKind.AsmKind, declared.instr.Op.Op, declared.instr.Modifier.Modifier, declared.instr.Mode.Mode, declared.instr.Instr.Instr}
use Rattle.{redcode_text.specs.{Operators.Value, declared.vocabulary.Word.Word, Tokens.Piece, Vocabulary.{named, modifier_names}}, redcode_lines.specs.Line.has_text}
use Rattle.redcode_statement.specs.{declared.operand.Operand.Operand, Chain.◌>>=◌, Operand.operand_of, Sides.{SideTokens, sides_of}}

abbrev pub is_immediate : Mode → Bool
is_immediate Mode.Immediate = true
is_immediate _ = false

-- one modifier if the A operand is immediate, another if the B operand is, a third if neither is
abbrev pub by_modes : Mode → Mode → Modifier → Modifier → Modifier → Modifier
by_modes a b at_a at_b elsewhere = if is_immediate a then at_a else (if is_immediate b then at_b else elsewhere)

-- the modifier if none is written (the draft standard's table of default modifiers; for SLT and NOP the project's own)
abbrev pub default_modifier : Op → Mode → Mode → Modifier
default_modifier Op.Dat a b = Modifier.F
default_modifier Op.Nop a b = Modifier.F
default_modifier Op.Mov a b = by_modes a b Modifier.AB Modifier.B Modifier.I
default_modifier Op.Seq a b = by_modes a b Modifier.AB Modifier.B Modifier.I
default_modifier Op.Sne a b = by_modes a b Modifier.AB Modifier.B Modifier.I
default_modifier Op.Add a b = by_modes a b Modifier.AB Modifier.B Modifier.F
default_modifier Op.Sub a b = by_modes a b Modifier.AB Modifier.B Modifier.F
default_modifier Op.Mul a b = by_modes a b Modifier.AB Modifier.B Modifier.F
default_modifier Op.Div a b = by_modes a b Modifier.AB Modifier.B Modifier.F
default_modifier Op.Mdl a b = by_modes a b Modifier.AB Modifier.B Modifier.F
default_modifier Op.Slt a b = by_modes a b Modifier.AB Modifier.B Modifier.B
-- JMP, JMZ, JMN, DJN and SPL
default_modifier _ a b = Modifier.B

-- a number as an address of a core of this size: its remainder, from 0 on
abbrev pub reduced : ℕ → ℤ → ℕ
reduced core (pos n) = n % core
reduced core (negsuc n) = core - 1 - n % core

-- x, if nothing stands after the operands
abbrev pub unless_more : {X : Type 0} → Bool → X → Result X AsmKind
unless_more true x = Err AsmKind.ExtraText
unless_more false x = Ok x

-- the A operand's fault, else that of the B operand, else a second comma's
abbrev pub instr_of_values : ℕ → Op → Option Modifier → Mode → Mode → Value → Value → Bool → Result Instr AsmKind
instr_of_values core op modifier a_mode b_mode (Err fault) b more = Err (AsmKind.Expression fault)
instr_of_values core op modifier a_mode b_mode (Ok a) (Err fault) more = Err (AsmKind.Expression fault)
instr_of_values core op modifier a_mode b_mode (Ok a) (Ok b) more =
    unless_more more (record {
      op = op;
      modifier = unwrap_or modifier (default_modifier op a_mode b_mode);
      a_mode = a_mode;
      a = reduced core a;
      b_mode = b_mode;
      b = reduced core b;
    })

abbrev pub instr_of : ℕ → Op → Option Modifier → Operand → Operand → Bool → Result Instr AsmKind
instr_of core op modifier a b more = instr_of_values core op modifier a.mode b.mode a.value b.value more

-- ---- from tokens

-- the modifier of this name, and the tokens after it
abbrev pub modifier_or_bad : Option Modifier → List Piece → Result (Option Modifier × List Piece) AsmKind
modifier_or_bad None behind = Err AsmKind.BadModifier
modifier_or_bad (Some modifier) behind = Ok (Some modifier, behind)

abbrev pub modifier_named_at : List Piece → Result (Option Modifier × List Piece) AsmKind
modifier_named_at [] = Err AsmKind.BadModifier
modifier_named_at (t ∷ ts) = modifier_or_bad (named modifier_names t.text) ts

-- the modifier after a dot, or none if no dot stands there, and the tokens of the operands
abbrev pub modifier_at : List Piece → Result (Option Modifier × List Piece) AsmKind
modifier_at [] = Ok (None, [])
modifier_at (t ∷ ts) = if has_text (codes ".") t then modifier_named_at ts else Ok (None, t ∷ ts)

abbrev pub instr_of_sides : ℕ → (List ℕ → Option ℤ) → Op → Option Modifier → SideTokens → Result Instr AsmKind
instr_of_sides core names op modifier sides = instr_of core op modifier (operand_of names sides.a) (operand_of names sides.b) sides.more

-- the instruction of a word and the tokens after it, in a core of this size, by what the names stand for; or its first fault.
-- A word that is no operation of the machine is LDP or STP, and there is no P-space
abbrev pub instruction_of : ℕ → (List ℕ → Option ℤ) → Option Word → List Piece → Result Instr AsmKind
instruction_of core names (Some (Word.Operation op)) tokens =
    modifier_at tokens >>= λ modifier.
    sides_of op modifier.1 >>= λ sides.
    instr_of_sides core names op modifier.0 sides
instruction_of core names _ tokens = Err AsmKind.Pspace
