-- What a contract sees of the tokens of a copy that lie in memory.
use Rattle.{std.specs.Prelude.{List, Option, Some, None}, redcode_text.specs.Tokens.Piece, redcode_lines.specs.Line.SourceLine}

-- the tokens of a line: before its word, and from it on
pub record LineTokens : Type 0 where
  pub front : List Piece
  pub tokens : List Piece

abbrev pub line_tokens : List Piece → List Piece → LineTokens
line_tokens front tokens = record { front = front; tokens = tokens }

-- a line with these tokens in place of its own, if there are any
abbrev pub with_tokens : SourceLine → Option LineTokens → SourceLine
with_tokens line None = line
with_tokens line (Some copy) = record line { front = copy.front; tokens = copy.tokens }
