-- The blocks of a source.
use Rattle.std.specs.Prelude.{ℕ, List, [], ◌∷◌, ◌++◌, Option, Some, None}
use Rattle.{redcode_text.specs.{Tokens.Piece, declared.vocabulary.Word.Word}, redcode_lines.specs.{declared.source.Directive.Directive, Source.{NumberedLine, directive_of}}}
use Rattle.redcode_lines.specs.{Line.{SourceLine, source_line, statement, statement_tokens}, declared.reading.LineForm.LineForm}

-- ---- the lines that are not skipped

abbrev pub statement_line : ℕ → List Piece → List SourceLine
statement_line number [] = []
statement_line number (token ∷ tokens) = statement number (token ∷ tokens) ∷ []

abbrev pub directive_line : ℕ → Directive → List ℕ → List SourceLine
directive_line number Directive.Redcode text = []
directive_line number Directive.Remark text = []
directive_line number Directive.Name text = source_line number LineForm.Name None text [] [] ∷ []
directive_line number Directive.Author text = source_line number LineForm.Author None text [] [] ∷ []
directive_line number Directive.Assert text = source_line number LineForm.Assert None [] [] (statement_tokens text) ∷ []

abbrev pub line_by : ℕ → List ℕ → Option (Directive × List ℕ) → List SourceLine
line_by number line (Some (directive, text)) = directive_line number directive text
line_by number line None = statement_line number (statement_tokens line)

-- blank lines, ;redcode lines and other comments are skipped
abbrev pub source_lines : List NumberedLine → List SourceLine
source_lines [] = []
source_lines (line ∷ lines) = line_by line.number line.text (directive_of line.text) ++ source_lines lines

-- ---- the blocks that they make

-- what is left of a source
pub data Blocks : Type 0 where
  -- nothing
  finish : Blocks
  -- a line that is no FOR and no ROF, and the rest
  one_line : SourceLine → Blocks → Blocks
  -- a block by its FOR line, its body and its ROF line, and the rest
  block : SourceLine → Blocks → SourceLine → Blocks → Blocks
  -- a FOR without its ROF
  open_for : SourceLine → Blocks

-- what is left up to the first ROF whose FOR stands before, and each such ROF with what is left after it
abbrev pub Parsed : Type 0
Parsed = Blocks × List (SourceLine × Blocks)

-- a FOR belongs to the first open ROF after it
abbrev pub with_body : SourceLine → Blocks → List (SourceLine × Blocks) → Parsed
with_body line body [] = (open_for line, [])
with_body line body (rof ∷ rofs) = (block line body rof.0 rof.1, rofs)

abbrev pub behind_for : SourceLine → Parsed → Parsed
behind_for line behind = with_body line behind.0 behind.1

abbrev pub behind_rof : SourceLine → Parsed → Parsed
behind_rof rof behind = (finish, (rof, behind.0) ∷ behind.1)

abbrev pub behind_line : SourceLine → Parsed → Parsed
behind_line line behind = (one_line line behind.0, behind.1)

abbrev pub behind_by : Option Word → SourceLine → Parsed → Parsed
behind_by (Some Word.For) line behind = behind_for line behind
behind_by (Some Word.Rof) line behind = behind_rof line behind
behind_by _ line behind = behind_line line behind

abbrev pub parsed : List SourceLine → Parsed
parsed [] = (finish, [])
parsed (line ∷ lines) = behind_by line.word line (parsed lines)
