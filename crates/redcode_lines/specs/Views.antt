-- What a contract sees of a line in memory.
use Rattle.{redcode_text.specs.Tokens.pieces, redcode_lines.specs.{declared.reading.Reading.Reading, Line.{SourceLine, source_line}}}

abbrev pub line_read : Reading → SourceLine
line_read line = source_line line.number line.form line.word line.title.now (pieces line.front.now) (pieces line.tokens.now)
