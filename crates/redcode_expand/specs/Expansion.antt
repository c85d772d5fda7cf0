-- The expanded lines and the labels of a source, or the first fault in the order of the refusals.
use Rattle.std.specs.Prelude.{ℕ, ◌-◌, nat_lt, if◌then◌else◌, List, [], ◌∷◌, ◌++◌, length, take, Result, Ok, Err}
use Rattle.{war_types.specs.{declared.fault.AsmFault.AsmFault, declared.settings.RawSettings.RawSettings, declared.fault.AsmKind.AsmKind}, redcode_text.specs.Tokens.Piece}
use Rattle.redcode_lines.specs.{declared.line.LineKind.LineKind, Operand.operands_of, Source.{NumberedLine, live_lines}, Block.{Parsed, parsed, source_lines}}
use Rattle.{redcode_names.specs.{Gives.{◌>>=◌, fault_at}, Equ.{EquList, replaced}, Name.{LabelList, Names}}, redcode_expand.specs.Walk.{WalkState, walk_all, walk_begin}}
pub use Rattle.redcode_names.specs.Name.{address_of, predefined}
pub use Rattle.redcode_expand.specs.Walk.{ExpandedLine}

pub record Expansion : Type 0 where
  pub lines : List ExpandedLine
  pub labels : LabelList

-- the tokens before the operands
abbrev pub before_operands : LineKind → List Piece → List Piece
before_operands kind tokens = take (length tokens - length (operands_of kind tokens)) tokens

-- a line with the names of EQUs in its operands replaced
abbrev pub line_replaced : EquList → ExpandedLine → Result ExpandedLine AsmFault
line_replaced equs line =
    replaced line.source_line equs (operands_of line.kind line.tokens) >>= λ operands. Ok (record line { tokens = before_operands line.kind line.tokens ++ operands })

-- all lines so, or the refusal of the first that is refused
abbrev pub all_replaced : EquList → List ExpandedLine → Result (List ExpandedLine) AsmFault
all_replaced equs [] = Ok []
all_replaced equs (line ∷ others) = line_replaced equs line >>= λ first. all_replaced equs others >>= λ behind. Ok (first ∷ behind)

-- these lines with the names of all EQUs replaced, and the labels
abbrev pub with_names : Names → List ExpandedLine → Result Expansion AsmFault
with_names names lines = all_replaced names.equs lines >>= λ made. Ok (record { lines = made; labels = names.labels })

-- the same of what the walk has found
abbrev pub finished : WalkState → Result Expansion AsmFault
finished st = with_names st.names st.lines

-- the blocks of a source written out
abbrev pub expansion_of_blocks : RawSettings → Parsed → Result Expansion AsmFault
expansion_of_blocks s source = walk_all s source walk_begin >>= finished

abbrev pub expansion_of_lines : RawSettings → List NumberedLine → Result Expansion AsmFault
expansion_of_lines s live = expansion_of_blocks s (parsed (source_lines live))

unfoldable pub expansion : RawSettings → List ℕ → Result Expansion AsmFault
expansion s source = if nat_lt 65536 (length source) then Err (fault_at 0 AsmKind.SourceTooLong) else expansion_of_lines s (live_lines source)
