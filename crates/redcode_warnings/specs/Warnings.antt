-- The warnings of a source: what its lines say although it may assemble.
use Rattle.std.specs.Prelude.{ℕ, Bool, true, false, not, ◌||◌, nat_le, if◌then◌else◌, List, [], ◌∷◌, ◌++◌, length, take, Option, Some, None}
use Rattle.redcode_lines.specs.{Block.source_lines, Line.SourceLine, Source.live_lines}
use Rattle.redcode_warnings.specs.{declared.kind.WarningKind.WarningKind, Read.{around, lines_read, lines_after_end}, Named.{is_among, names_of}, Start.{Starts, is_instruction, is_late, is_overruled, starts_of}, Label.{is_unused_equ, labels_warning}, Titles.{has_form, is_assert, is_author, is_blank_text, is_changed, is_name, last_text}}

-- a kind with the number of a line, or 0 if none is to blame
abbrev pub Noted : Type 0
Noted = WarningKind × ℕ

abbrev pub noted : WarningKind → ℕ → Noted
noted kind line = (kind, line)

abbrev pub noted_if : Bool → WarningKind → ℕ → List Noted
noted_if true kind line = noted kind line ∷ []
noted_if false kind line = []

-- what the source as a whole lacks
abbrev pub missing : List SourceLine → List Noted
missing lines =
    noted_if (is_blank_text (last_text is_name [] lines)) WarningKind.NoName 0 ++ noted_if (is_blank_text (last_text is_author [] lines)) WarningKind.NoAuthor 0
    ++ noted_if (not (has_form is_assert lines)) WarningKind.NoAssert 0

abbrev pub noted_some : Option WarningKind → ℕ → List Noted
noted_some (Some kind) line = noted kind line ∷ []
noted_some None line = []

-- the warning of a line's labels, and of the name of its EQU
abbrev pub noted_names : (List ℕ → Bool) → Starts → SourceLine → List Noted
noted_names is_named starts line =
    noted_some (labels_warning is_named (is_late starts line.number) line) line.number ++ noted_if (is_unused_equ is_named line) WarningKind.UnusedEqu line.number

-- the warnings of a line that is read: of its title, of its start, of the first of its labels that has one, and of its EQU
abbrev pub noted_on : (List ℕ → Bool) → Starts → SourceLine → List Noted
noted_on is_named starts line =
    noted_if (is_changed line.title) WarningKind.ChangedTitle line.number ++ noted_if (is_overruled starts line) WarningKind.StartOverruled line.number
    ++ noted_names is_named starts line

abbrev pub noted_lines : (List ℕ → Bool) → Starts → List SourceLine → List Noted
noted_lines is_named starts [] = []
noted_lines is_named starts (line ∷ lines) = noted_on is_named starts line ++ noted_lines is_named starts lines

-- the number of the first instruction among these lines
abbrev pub first_instruction : List SourceLine → Option ℕ
first_instruction [] = None
first_instruction (line ∷ lines) = if is_instruction line.word then Some line.number else first_instruction lines

abbrev pub noted_at : WarningKind → Option ℕ → List Noted
noted_at kind (Some line) = noted kind line ∷ []
noted_at kind None = []

-- the first instruction of lines that aren't read
abbrev pub noted_unread : List SourceLine → List Noted
noted_unread lines = noted_at WarningKind.CodeAfterEnd (first_instruction lines)

abbrev pub noted_by : List SourceLine → List SourceLine → List Noted
noted_by read unread = missing read ++ noted_lines (is_among (names_of read)) (starts_of read) read ++ noted_unread unread

abbrev pub noted_in : List SourceLine → List Noted
noted_in lines = noted_by (lines_read (around 0 0) lines) (lines_after_end (around 0 0) lines)

-- the first 100, and none of a source that is too long
abbrev pub warnings_of : List ℕ → List Noted
warnings_of source = if nat_le (length source) 65536 then take 100 (noted_in (source_lines (live_lines source))) else []
