-- What the code keeps of a walk: no more of a line's tokens and of an EQU's body than shows what is wrong with them, and what an
-- expansion shows of it. This is no part of the definition.
use Rattle.std.specs.Prelude.{Bool, true, false, if◌then◌else◌, List, [], ◌∷◌, ◌++◌, take, drop, map, Result, Ok}
use Rattle.{war_types.specs.declared.fault.AsmFault.AsmFault, redcode_text.specs.Tokens.Piece, redcode_lines.specs.{declared.line.LineKind.LineKind, Line.is_bad}}
use Rattle.redcode_names.specs.{Gives.◌>>=◌, Cut.cut_names}
use Rattle.redcode_expand.specs.{Walk.{ExpandedLine, WalkState, walk_state}, Expansion.Expansion}

-- the first token that is none of the language's, alone
abbrev pub first_bad : List Piece → List Piece
first_bad [] = []
first_bad (token ∷ tokens) = if is_bad token then token ∷ [] else first_bad tokens

-- 516 tokens are a word, a dot, a modifier's name and one operand more than a line may have; of what is after them only a bad token tells
unfoldable pub cut_tokens : List Piece → List Piece
cut_tokens tokens = take 516 tokens ++ first_bad (drop 516 tokens)

-- the lines that have operands or an expression: more than 512 tokens of these are refused, whatever they are
abbrev pub is_limited : LineKind → Bool
is_limited LineKind.Operation = true
is_limited LineKind.Org = true
is_limited LineKind.End = true
is_limited LineKind.Assert = true
is_limited _ = false

-- what is kept of the tokens of a line
unfoldable pub kept_tokens : LineKind → List Piece → List Piece
kept_tokens kind tokens = if is_limited kind then take 516 tokens else cut_tokens tokens

abbrev pub cut_line : ExpandedLine → ExpandedLine
cut_line line = record line { tokens = kept_tokens line.kind line.tokens }

abbrev pub cut_lines : List ExpandedLine → List ExpandedLine
cut_lines lines = map cut_line lines

abbrev pub cut_walk : WalkState → WalkState
cut_walk st = walk_state st.counted st.before (cut_names st.names) (cut_lines st.lines) st.ended

-- the walk that was found, cut so
abbrev pub with_cut : Result WalkState AsmFault → Result WalkState AsmFault
with_cut found = found >>= λ st. Ok (cut_walk st)

-- ---- an expansion

-- operands and expressions are as they are, since they are few in a line that is not refused
abbrev pub shown_tokens : LineKind → List Piece → List Piece
shown_tokens LineKind.Name tokens = cut_tokens tokens
shown_tokens LineKind.Author tokens = cut_tokens tokens
shown_tokens LineKind.Other tokens = cut_tokens tokens
shown_tokens _ tokens = tokens

abbrev pub shown_line : ExpandedLine → ExpandedLine
shown_line line = record line { tokens = shown_tokens line.kind line.tokens }

abbrev pub shown_lines : List ExpandedLine → List ExpandedLine
shown_lines lines = map shown_line lines

abbrev pub shown : Expansion → Expansion
shown expanded = record { lines = shown_lines expanded.lines; labels = expanded.labels }

-- what is shown of the expansion that was found
abbrev pub with_shown : Result Expansion AsmFault → Result Expansion AsmFault
with_shown found = found >>= λ expanded. Ok (shown expanded)
