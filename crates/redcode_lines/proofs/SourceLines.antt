-- The lines of a source that are not skipped, one after another.
use Rattle.std.proofs.Common.{◌≡◌, ℕ, ◌+◌, ◌≤◌, ◌<◌, List, [], ◌∷◌, ◌++◌, length, length-append, Option, append_assoc, arith, refl}
use Rattle.{redcode_text.specs.Tokens.Piece, redcode_lines.specs.declared.source.Directive.Directive}
use Rattle.redcode_lines.specs.{Source.{directive_of, numbered_from}, Line.{SourceLine, statement}, Block.{source_lines, statement_line, line_by}}

line-one : (n : ℕ) (line : List ℕ) (found : Option (Directive × List ℕ)) → length (line_by n line found) ≤ 1
line-one n line found = grind arith

-- a line was read
pub line-read : (lines after : List SourceLine) (n : ℕ) (line : List ℕ) (left others : List (List ℕ)) (due : List SourceLine) → left ≡ line ∷ others
    → after ≡ lines ++ line_by n line (directive_of line) → lines ++ source_lines (numbered_from n left) ≡ due
    → (after ++ source_lines (numbered_from (n + 1) others) ≡ due) × (length after ≤ length lines + 1)
line-read lines after n line left others due cut is so_far = (grind (arith, append_assoc), grind (arith, line-one, length-append))

-- a statement is one line: for `append_line`
pub one-statement : (n : ℕ) (tokens : List Piece) → 0 < length tokens → statement_line n tokens ≡ statement n tokens ∷ []
one-statement n [] some = absurd (omega arith)
one-statement n (t ∷ ts) some = refl
