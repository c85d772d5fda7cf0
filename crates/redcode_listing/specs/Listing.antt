-- The listing of a warrior: its load text, with a comment after each instruction.
use Rattle.std.specs.Prelude.{◌≡◌, ℕ, ◌+◌, ◌-◌, nat_le, nat_eq, if◌then◌else◌, List, [], ◌∷◌, ◌++◌, All, Option, Some, None, Ok, codes, decimal, length, slice_get, take}
use Rattle.{war_types.specs.{Warrior.WarriorParts, declared.{instr.Instr.Instr, settings.RawSettings.RawSettings}}, redcode_lines.specs.declared.line.Line.Line}
use Rattle.redcode_statement.specs.InstrLine.{instr_line}
use Rattle.redcode_names.specs.Name.{LabelList, address_of}
use Rattle.redcode_expand.specs.{Cut.{shown, with_shown}, Expansion.{Expansion, expansion}}
use Rattle.redcode_listing.specs.{Lines.{instruction_lines, times}, declared.labels.Label.Label}

-- ---- the comment of an instruction

-- the number of the copy, if the line is written out more than once
abbrev pub copy_text : ℕ → ℕ → List ℕ
copy_text all so_far = if nat_le all 1 then [] else codes ", copy " ++ decimal so_far

abbrev pub label_text : ℕ → Label → List ℕ
label_text address label = if nat_eq label.address address then codes ", label " ++ label.name.now else []

abbrev pub label_texts : ℕ → List Label → List ℕ
label_texts address [] = []
label_texts address (label ∷ labels) = label_text address label ++ label_texts address labels

-- of the instruction at this index, whose line this is: its address, the line, how often that was written out by then,
-- and its labels
abbrev pub note_text : List Line → List Label → ℕ → Line → List ℕ
note_text lines labels i line =
    codes " ; " ++ decimal line.before ++ codes ", line " ++ decimal line.source_line
    ++ copy_text (times line.source_line lines) (times line.source_line (take (i + 1) lines))
    ++ label_texts line.before labels

abbrev pub note_if : List Line → List Label → ℕ → Option Line → List ℕ
note_if lines labels i None = []
note_if lines labels i (Some line) = note_text lines labels i line

abbrev pub note_at : List Line → List Label → ℕ → List ℕ
note_at lines labels i = note_if lines labels i (slice_get lines i)

-- ---- the text

-- the line of an instruction without its line feed
abbrev pub instr_text : ℕ → Instr → List ℕ
instr_text core i = take (length (instr_line core i) - 1) (instr_line core i)

-- a line for each instruction from this index on, with what is noted of it
abbrev pub listed : (ℕ → List ℕ) → ℕ → ℕ → List Instr → List ℕ
listed note core i [] = []
listed note core i (instr ∷ rest) = (instr_text core instr ++ note i ++ codes "\n") ++ listed note core (i + 1) rest

-- a load text with what is noted of its instructions
abbrev pub text_with : (ℕ → List ℕ) → ℕ → WarriorParts → List ℕ
text_with note core w = codes "ORG " ++ decimal w.start ++ codes "\n" ++ listed note core 0 w.code ++ codes "END\n"

-- a label with its address
abbrev pub IsLabelOf : LabelList → Label → Type 0
IsLabelOf labels label = address_of labels label.name.now ≡ Some label.address

-- ---- of a source

-- this is the listing of the warrior that a source gives, by what is written out of that
pub record IsListing (s : RawSettings) (source : List ℕ) (w : WarriorParts) (text : List ℕ) : Type 0 where
  pub found : Expansion
  pub expanded : with_shown (expansion s source) ≡ Ok (shown found)
  pub labels : List Label
  pub addresses : All (IsLabelOf found.labels) labels
  pub listing : text ≡ text_with (note_at (instruction_lines found.lines) labels) s.core w
