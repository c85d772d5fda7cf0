-- The lines of instructions in what is written out of a source.
use Rattle.std.specs.Prelude.{ℕ, ◌+◌, nat_eq, if◌then◌else◌, Bool, true, false, List, [], ◌∷◌}
use Rattle.{redcode_lines.specs.declared.line.{Line.Line, LineKind.LineKind}, redcode_expand.specs.Expansion.ExpandedLine}

abbrev pub is_operation : LineKind → Bool
is_operation LineKind.Operation = true
is_operation _ = false

abbrev pub line_of : ExpandedLine → Line
line_of line = record { source_line = line.source_line; kind = line.kind; before = line.before }

-- the lines with an operation, in their order: each is an instruction of a warrior that is not refused
abbrev pub instruction_lines : List ExpandedLine → List Line
instruction_lines [] = []
instruction_lines (line ∷ lines) =
    if is_operation line.kind then line_of line ∷ instruction_lines lines else instruction_lines lines

-- how many of these lines are the source's line of this number
abbrev pub times : ℕ → List Line → ℕ
times number [] = 0
times number (line ∷ lines) = if nat_eq line.source_line number then 1 + times number lines else times number lines
