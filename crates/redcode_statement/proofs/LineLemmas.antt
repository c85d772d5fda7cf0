-- Texts without a line feed.
use Rattle.{std.proofs.Common.{◌≡◌, ℕ, ◌==◌, false, List, [], ◌∷◌, ◌++◌, refl, arith}, std.specs.List.list_any, redcode_lines.specs.Source.lines_of}

-- a text without a line feed
abbrev pub AreInLine : List ℕ → Type 0
AreInLine bs = list_any (λ b. b == 10) bs ≡ false

-- such a text and a line feed are the first of the lines
pub lines_of-line : (line rest : List ℕ) → AreInLine line → lines_of (line ++ 10 ∷ rest) ≡ line ∷ lines_of rest
lines_of-line [] rest inside = refl
lines_of-line (b ∷ line) rest inside = grind (arith, lines_of-line line rest)
