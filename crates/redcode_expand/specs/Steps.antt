-- What a step is: a line that is walked over, a token that is read, and 32 bytes of a name.
use Rattle.std.specs.Prelude.{ℕ, zero, suc, ◌+◌, ◌*◌, ◌/◌, Bool, true, false, ◌&&◌, if◌then◌else◌, List, [], ◌∷◌, length, drop, Option, Some}
use Rattle.{redcode_text.specs.Tokens.Piece, redcode_text.specs.declared.vocabulary.Word.Word, redcode_lines.specs.{Line.SourceLine, Source.live_lines, Block.{Blocks, parsed, source_lines}}}
use Rattle.redcode_expand.specs.{declared.marked_lines.Edge.Edge, Marks.{edge_of, has_join, is_bare, line_in, shortened}}
pub use Rattle.redcode_names.specs.Steps.{token_steps}

abbrev pub bytes_of : List Piece → ℕ
bytes_of [] = 0
bytes_of (token ∷ tokens) = length token.text + bytes_of tokens

abbrev pub tokens_of : SourceLine → ℕ
tokens_of line = length line.front + length line.tokens

-- a line is walked over, and its tokens are read
abbrev pub read_steps : SourceLine → ℕ
read_steps line = 1 + (token_steps line.front + token_steps line.tokens)

-- the same within this number of blocks: if an & is among its tokens, they are read again for each block, and each join copies a name,
-- which may have all bytes of the line. Outside of blocks an & joins nothing
abbrev pub visit_steps : ℕ → SourceLine → ℕ
visit_steps zero line = read_steps line
visit_steps (suc n) line =
    read_steps line + (if has_join line then tokens_of line * (suc n + (bytes_of line.front + bytes_of line.tokens) / 16) else 0)

-- the steps of the ROF of a FOR, if there is something to read in it: a block without a copy is passed with it
abbrev pub rof_steps : (SourceLine → ℕ) → Edge → List (SourceLine × Blocks) → ℕ
rof_steps visit Edge.For (rof ∷ rofs) = if is_bare rof.0 then 0 else visit rof.0
rof_steps visit _ rofs = 0

-- the steps of the line at this index: its own, and those of its ROF
abbrev pub steps_at : (SourceLine → ℕ) → List SourceLine → ℕ → ℕ
steps_at visit lines at = visit (shortened (line_in lines at)) + rof_steps visit (edge_of (line_in lines at).word) (parsed (drop (at + 1) lines)).1

-- ---- sources without blocks and EQUs

-- neither a FOR nor an EQU
abbrev pub is_plain_word : Option Word → Bool
is_plain_word (Some Word.For) = false
is_plain_word (Some Word.Equ) = false
is_plain_word _ = true

abbrev pub are_plain : List SourceLine → Bool
are_plain [] = true
are_plain (line ∷ lines) = is_plain_word line.word && are_plain lines

-- no line that counts is a FOR or an EQU
abbrev pub is_plain : List ℕ → Bool
is_plain source = are_plain (source_lines (live_lines source))

-- all lines are read once
abbrev pub reads : List SourceLine → ℕ
reads [] = 0
reads (line ∷ lines) = read_steps line + reads lines
