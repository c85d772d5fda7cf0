-- The most steps that an expansion takes.
use Rattle.std.specs.Prelude.{ℕ, ◌+◌, ◌*◌, ◌^◌}

-- more than the steps of a line in a source of this length: its tokens are read for each block that is open, and replaced in 16 rounds
abbrev pub line_steps : ℕ → ℕ
line_steps length = (length + 1) * (length + 16385)

-- the steps that this number of lines take if each takes `most`
unfoldable pub steps_of : ℕ → ℕ → ℕ
steps_of most lines = most * lines

-- more lines than are walked over: 4,096 count, and from one that counts to the next no line of 65,536 is passed more than twice
abbrev pub most_lines : ℕ
most_lines = 537010177

-- more than the steps of a source of this length: those of its lines, and those of the operands that are replaced when all is written out
unfoldable pub most_steps : ℕ → ℕ
most_steps length = steps_of (line_steps length) most_lines + 2 ^ 32
