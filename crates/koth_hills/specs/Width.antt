-- How wide a text is.
use Rattle.std.specs.Prelude.{ℕ, ◌+◌, ◌==◌, max, if◌then◌else◌, List, [], ◌∷◌}

-- the length of the longest line of a text that stands after `before` bytes of its first line; a line feed doesn't
-- count
abbrev pub longest_from : ℕ → List ℕ → ℕ
longest_from before [] = before
longest_from before (byte ∷ rest) =
    if byte == 10 then max before (longest_from 0 rest) else longest_from (before + 1) rest

-- the length of the longest line of a text
abbrev pub longest_line : List ℕ → ℕ
longest_line text = longest_from 0 text

-- the characters that a line has at most on a terminal of the usual width
abbrev pub terminal_width : ℕ
terminal_width = 80
