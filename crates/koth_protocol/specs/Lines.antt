-- The lines of a session's input.
use Rattle.std.specs.Prelude.{ℕ, ◌==◌, if◌then◌else◌, List, [], ◌∷◌, ◌++◌}

-- the line without one carriage return (byte 13) at its end
abbrev pub without_return : List ℕ → List ℕ
without_return [] = []
without_return (b ∷ []) = if b == 13 then [] else b ∷ []
without_return (b ∷ c ∷ cs) = b ∷ without_return (c ∷ cs)

-- the line without one dot (byte 46) at its beginning
abbrev pub without_dot : List ℕ → List ℕ
without_dot [] = []
without_dot (b ∷ bs) = if b == 46 then bs else b ∷ bs

-- the lines of these bytes after the beginning of a line; each ends with a line feed (byte 10), and a last one without
-- it is none
abbrev pub lines_from : List ℕ → List ℕ → List (List ℕ)
lines_from line [] = []
lines_from line (b ∷ bs) = if b == 10 then without_return line ∷ lines_from [] bs else lines_from (line ++ b ∷ []) bs

abbrev pub lines_of : List ℕ → List (List ℕ)
lines_of bytes = lines_from [] bytes
