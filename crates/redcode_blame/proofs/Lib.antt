-- parts of a line
mod OfLine
