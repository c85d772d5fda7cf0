use Rattle.{std.proofs.{lemmas.Grind.common_steps, Common.{arith, ap, sym, ◌∙◌, List}, lemmas.List.length-map}, redcode_text.specs.{Tokens.{piece_of, pieces}, declared.token.Token.Token}}
use Rattle.{war_types.specs.declared.fault.AsmKind.AsmKind, redcode_names.specs.Gives.fault_at, redcode_lines.specs.Operand.operands_of, redcode_expand.specs.Expansion.ExpandedLine, redcode_expand.proofs.Words.{Names, has_equ}}
use Rattle.redcode_expand.proofs.Unchanged.{line-same, line-over, line-read, none-named}
use Rattle.redcode_expand.proofs.expanded.replace_in.Goals as goal

pub returns-then-operands-gt-TOKEN_LIMIT-clause-line : goal.returns-then-operands-gt-TOKEN_LIMIT-clause-line
returns-then-operands-gt-TOKEN_LIMIT-clause-line g c =
    line-over c.args.names.now.equs c.args.entry (pieces c.operands_of-operands.result.now) c.too_many.result
    (c.operands_of-operands.ensures.operands ∙ ap (λ (ts : List Token). operands_of c.entry.inside.line.kind (pieces ts)) c.as_slice-tokens.ensures.value
    ∙ ap (λ (l : ExpandedLine). operands_of l.kind l.tokens) c.entry.view_is)
    (omega (arith, length-map c.operands_of-operands.result.now piece_of, c.if-operands-gt-TOKEN_LIMIT.true))
    (c.too_many.ensures ∙ ap (λ (l : ExpandedLine). fault_at l.source_line AsmKind.EquLimit) c.entry.view_is)

pub returns-then-has_no_equs-clause-line : goal.returns-then-has_no_equs-clause-line
returns-then-has_no_equs-clause-line g c = grind (arith, common_steps, line-same, none-named, length-map)

pub returns-clause-work : goal.returns-clause-work
returns-clause-work g c =
    line-read c.args.names.now.equs c.args.entry (pieces c.operands_of-operands.result.now) c.written_in.new.work c.args.work.now
    (c.operands_of-operands.ensures.operands ∙ ap (λ (ts : List Token). operands_of c.entry.inside.line.kind (pieces ts)) c.as_slice-tokens.ensures.value
    ∙ ap (λ (l : ExpandedLine). operands_of l.kind l.tokens) c.entry.view_is)
    (omega (arith, length-map c.operands_of-operands.result.now piece_of, c.if-operands-gt-TOKEN_LIMIT.false))
    (sym (ap (λ (n : Names). has_equ n.equs (pieces c.operands_of-operands.result.now)) c.names.view_is) ∙ sym c.are_among.ensures ∙ c.if-not-are_among.false) c.written_in.ensures.work
