-- What an expanded line says.
use Rattle.std.specs.{Prelude.{if◌then◌else◌, ℕ, List, drop, Option, Result, Ok, Err}, List.list_any}
use Rattle.{war_types.specs.{declared.fault.AsmKind.AsmKind, declared.settings.RawSettings.RawSettings}, redcode_text.specs.{declared.vocabulary.Word.Word, Tokens.Piece}}
use Rattle.redcode_lines.specs.declared.line.LineKind.{LineKind}
use Rattle.redcode_statement.specs.{declared.statement.Statement.Statement, Instruction.instruction_of, Statement.{is_bad, org_said, end_said, assert_said, instruction_said, other_said}}
use Rattle.{redcode_names.specs.Name.LabelList, redcode_expand.specs.Expansion.ExpandedLine, redcode_asm.specs.Names.values_of}

abbrev pub said_by_kind : RawSettings → LabelList → LineKind → Option Word → ℕ → List Piece → Result Statement AsmKind
said_by_kind s labels LineKind.Operation word before tokens = instruction_said (instruction_of s.core (values_of s labels before before) word (drop 1 tokens))
said_by_kind s labels LineKind.Org word before tokens = org_said (values_of s labels before 0) (drop 1 tokens)
said_by_kind s labels LineKind.End word before tokens = end_said (values_of s labels before 0) (drop 1 tokens)
said_by_kind s labels LineKind.Assert word before tokens = assert_said (values_of s labels before 0) tokens
said_by_kind s labels LineKind.Other word before tokens = other_said word
said_by_kind s labels _ word before tokens = Ok Statement.Nothing

-- what a line of this kind, word and tokens says, with `before` instructions before it, or the first of its faults in the order of
-- their kinds
unfoldable pub said_by : RawSettings → LabelList → LineKind → Option Word → ℕ → List Piece → Result Statement AsmKind
said_by s labels kind word before tokens = if list_any is_bad tokens then Err AsmKind.BadToken else said_by_kind s labels kind word before tokens

-- what a line says under these settings and with these labels
abbrev pub statement_of : RawSettings → LabelList → ExpandedLine → Result Statement AsmKind
statement_of s labels line = said_by s labels line.kind line.word line.before line.tokens
