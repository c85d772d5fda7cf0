-- What the walk knows of the lines of a source before it reads them. No part of the definition: a shorter way to the same.
use Rattle.std.specs.Prelude.{◌≡◌, ℕ, ◌+◌, ◌<◌, ◌≤◌, Bool, true, false, not, ◌&&◌, ◌||◌, nat_lt, if◌then◌else◌, List, [], ◌∷◌, length, take, drop, Option, Some, None, ⊤, slice_index_or}
use Rattle.{redcode_text.specs.declared.vocabulary.Word.Word, redcode_lines.specs.{Line.{SourceLine, has_and, source_line}, Block.parsed}}
use Rattle.{redcode_lines.specs.declared.reading.LineForm.LineForm, redcode_names.specs.Equ.has_tokens, redcode_expand.specs.{declared.marked_lines.Edge.Edge, declared.marked_lines.Mark.Mark}}

-- the line at this index
abbrev pub line_in : List SourceLine → ℕ → SourceLine
line_in lines at = slice_index_or lines at (source_line 0 LineForm.Statement None [] [] [])

-- what a line with this word is to a block
abbrev pub edge_of : Option Word → Edge
edge_of (Some Word.For) = Edge.For
edge_of (Some Word.Rof) = Edge.Rof
edge_of _ = Edge.Neither

-- nothing stands before its word, and no & after it
abbrev pub is_bare : SourceLine → Bool
is_bare line = not (has_tokens line.front) && not (has_and line.tokens)

-- an & is among its tokens
abbrev pub has_join : SourceLine → Bool
has_join line = has_and line.front || has_and line.tokens

-- the lines that have operands or an expression
abbrev pub has_operands : LineForm → Option Word → Bool
has_operands LineForm.Statement (Some (Word.Operation op)) = true
has_operands LineForm.Statement (Some Word.Pspace) = true
has_operands LineForm.Statement (Some Word.Org) = true
has_operands LineForm.Statement (Some Word.End) = true
has_operands LineForm.Assert word = true
has_operands form word = false

-- in each copy it has too many operands: without an & a line has the same number of tokens in all
abbrev pub is_long : SourceLine → Bool
is_long line = nat_lt 516 (length line.tokens) && (has_operands line.form line.word && (not (has_and line.front) && not (has_and line.tokens)))

-- of such a line no more tokens than show it
abbrev pub shortened : SourceLine → SourceLine
shortened line = if is_long line then record line { tokens = take 516 line.tokens } else line

-- these lines are none, or the first is a ROF
abbrev pub AreFromRof : List SourceLine → Type 0
AreFromRof [] = ⊤
AreFromRof (line ∷ lines) = line.word ≡ Some Word.Rof

-- rof is the index of the first ROF, from the line at body on, that belongs to no FOR from there on; or there is none
pub record IsNextRof (lines : List SourceLine) (body rof : ℕ) : Type 0 where
  pub rofs : (parsed (drop rof lines)).1 ≡ (parsed (drop body lines)).1
  pub from : AreFromRof (drop rof lines)
  pub later : body ≤ rof

-- in all copies these lines have the same tokens
pub record ReadSame (line other : SourceLine) : Type 0 where
  pub form : line.form ≡ other.form
  pub word : line.word ≡ other.word
  pub tokens : line.tokens ≡ other.tokens

-- the line at index count is one of these lines, and reads the same as the one at index at
pub record IsSameCount (lines : List SourceLine) (at count : ℕ) : Type 0 where
  pub some : count < length lines
  pub same : ReadSame (line_in lines at) (line_in lines count)

-- what is marked of the line at this index
pub record IsMarked (lines : List SourceLine) (at : ℕ) (mark : Mark) : Type 0 where
  pub edge : mark.edge ≡ edge_of (line_in lines at).word
  pub bare : mark.is_bare ≡ is_bare (line_in lines at)
  pub long : mark.is_long ≡ is_long (line_in lines at)
  pub joins : mark.joins ≡ has_join (line_in lines at)
  pub rof : IsNextRof lines (at + 1) mark.rof
  pub count : IsSameCount lines at mark.count

abbrev pub no_mark : Mark
no_mark = record { edge = Edge.For; is_bare = false; is_long = false; joins = false; rof = 0; count = 0 }

abbrev pub mark_at : List Mark → ℕ → Mark
mark_at marks at = slice_index_or marks at no_mark

-- all lines from this index on are marked so
pub record AreMarked (from : ℕ) (lines : List SourceLine) (marks : List Mark) : Type 0 where
  pub room : length marks ≡ length lines
  pub marked : (at : ℕ) → from ≤ at → at < length lines → IsMarked lines at (mark_at marks at)
