-- The numbers of the code are addresses of the core.
use Rattle.{std.proofs.Common.{ℕ, ◌<◌, List, [], ◌∷◌, Option, IfOk, arith}, std.specs.List.AllByRecursion}
use Rattle.{war_types.specs.{declared.settings.RawSettings.RawSettings, Warrior.HasNumbersBelow}, redcode_text.specs.{declared.vocabulary.Word.Word, Tokens.Piece}}
use Rattle.{redcode_lines.specs.declared.line.LineKind.LineKind, redcode_statement.proofs.Bounds.{HasBounds, below-instruction, below-said}, redcode_names.specs.Name.LabelList}
use Rattle.{redcode_expand.specs.Expansion.ExpandedLine, redcode_asm.specs.{Said.{said_by}, Assembly.{Placed, all_said, code_of}}}

below-said_by : (s : RawSettings) (labels : LabelList) (kind : LineKind) (word : Option Word) (before : ℕ) (tokens : List Piece) → 0 < s.core
    → IfOk (said_by s labels kind word before tokens) (HasBounds s.core)
unfolding said_by
below-said_by s labels kind word before tokens some = grind (arith, below-said, below-instruction)

-- ---- all lines

abbrev pub HasCode : ℕ → List Placed → Type 0
HasCode core said = AllByRecursion (HasNumbersBelow core) (code_of said)

-- the numbers of the code that lines give are below the core size
pub below-all_said : (s : RawSettings) (labels : LabelList) (all : List ExpandedLine) → 0 < s.core → IfOk (all_said s labels all) (HasCode s.core)
below-all_said s labels [] some = tt
below-all_said s labels (line ∷ others) some =
    let here = below-said_by s labels line.kind line.word line.before line.tokens some in
    let behind = below-all_said s labels others some in
    grind arith
