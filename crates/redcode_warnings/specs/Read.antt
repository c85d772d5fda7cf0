-- Which lines of a source are read: those up to the first END in no block, but for what stands in a block whose count is written as 0.
use Rattle.std.specs.Prelude.{ℕ, ◌+◌, ◌-◌, Bool, true, false, ◌&&◌, ◌||◌, ◌==◌, nat_lt, if◌then◌else◌, List, [], ◌∷◌, ◌++◌, Option, Some, None, codes}
use Rattle.{redcode_text.specs.{Tokens.Piece, declared.vocabulary.Word.Word}, redcode_lines.specs.Line.{SourceLine, has_text}}

-- the blocks that are open around a line
pub record Around : Type 0 where
  -- those that may be written out
  pub written : ℕ
  -- within these, those from the first FOR 0 on
  pub dropped : ℕ

abbrev pub around : ℕ → ℕ → Around
around written dropped = record { written = written; dropped = dropped }

-- the tokens of a FOR whose count is 0
abbrev pub is_for_zero : List Piece → Bool
is_for_zero (for ∷ count ∷ []) = has_text (codes "0") count
is_for_zero _ = false

-- one block more, which may be dropped
abbrev pub within : Bool → Around → Around
within is_dropped a = if nat_lt 0 a.dropped || is_dropped then around a.written (a.dropped + 1) else around (a.written + 1) a.dropped

-- one block less, if one is open
abbrev pub without : Around → Around
without a = if nat_lt 0 a.dropped then around a.written (a.dropped - 1) else around (a.written - 1) a.dropped

abbrev pub behind_word : Option Word → List Piece → Around → Around
behind_word (Some Word.For) tokens a = within (is_for_zero tokens) a
behind_word (Some Word.Rof) tokens a = without a
behind_word _ tokens a = a

-- the blocks around what is after a line
abbrev pub behind_line : SourceLine → Around → Around
behind_line line a = behind_word line.word line.tokens a

abbrev pub is_end : Option Word → Bool
is_end (Some Word.End) = true
is_end _ = false

-- an END in no block
abbrev pub ends : SourceLine → Around → Bool
ends line a = is_end line.word && (a.written == 0 && a.dropped == 0)

-- the lines that are read
abbrev pub lines_read : Around → List SourceLine → List SourceLine
lines_read a [] = []
lines_read a (line ∷ lines) = (if a.dropped == 0 then line ∷ [] else []) ++ (if ends line a then [] else lines_read (behind_line line a) lines)

-- the lines after the END in no block, none if there is no such END
abbrev pub lines_after_end : Around → List SourceLine → List SourceLine
lines_after_end a [] = []
lines_after_end a (line ∷ lines) = if ends line a then lines else lines_after_end (behind_line line a) lines
