use Rattle.{std.proofs.{lemmas.Grind.common_steps, Common.{◌≡◌, ℕ, ◌≤◌, ◌+◌, arith, ap, subst, ◌∙◌, List}, lemmas.List.length-map}, redcode_text.specs.{Tokens.pieces, declared.token.Token.Token}}
use Rattle.{redcode_lines.specs.Operand.operands_of, redcode_names.specs.Steps.rounds_steps, redcode_expand.specs.Expansion.ExpandedLine, redcode_expand.proofs.Words.{EquList, Names, Piece}}
use Rattle.redcode_expand.proofs.expanded.written_in.Goals as goal

-- the same operands and EQUs
of-same : (old new : EquList) (ts us : List Piece) (work before : ℕ) → old ≡ new → ts ≡ us → work ≤ before + rounds_steps 16 old ts → work ≤ before + rounds_steps 16 new us
of-same old new ts us work before same are few = subst (λ (es : EquList). work ≤ before + rounds_steps 16 es us) same (subst (λ (vs : List Piece). work ≤ before + rounds_steps 16 old vs) are few)

pub returns-clause-line : goal.returns-clause-line
returns-clause-line g c = grind (arith, common_steps, length-map)

pub returns-clause-work : goal.returns-clause-work
returns-clause-work g c =
    of-same c.names.inside.equs c.args.names.now.equs (pieces c.operands_of-operands.result.now) (operands_of c.args.entry.kind c.args.entry.tokens) c.written.new.work c.args.work.now
    (ap (λ (n : Names). n.equs) c.names.view_is)
    (c.operands_of-operands.ensures.operands ∙ ap (λ (ts : List Token). operands_of c.entry.inside.line.kind (pieces ts)) c.as_slice-tokens.ensures.value
    ∙ ap (λ (l : ExpandedLine). operands_of l.kind l.tokens) c.entry.view_is) c.written.ensures.work

pub returns-in_err-operands-clause-work : goal.returns-in_err-operands-clause-work
returns-in_err-operands-clause-work g c =
    of-same c.names.inside.equs c.args.names.now.equs (pieces c.operands_of-operands.result.now) (operands_of c.args.entry.kind c.args.entry.tokens) c.written.new.work c.args.work.now
    (ap (λ (n : Names). n.equs) c.names.view_is)
    (c.operands_of-operands.ensures.operands ∙ ap (λ (ts : List Token). operands_of c.entry.inside.line.kind (pieces ts)) c.as_slice-tokens.ensures.value
    ∙ ap (λ (l : ExpandedLine). operands_of l.kind l.tokens) c.entry.view_is) c.written.ensures.work

pub returns-in_err-tokens-clause-work : goal.returns-in_err-tokens-clause-work
returns-in_err-tokens-clause-work g c =
    of-same c.names.inside.equs c.args.names.now.equs (pieces c.operands_of-operands.result.now) (operands_of c.args.entry.kind c.args.entry.tokens) c.written.new.work c.args.work.now
    (ap (λ (n : Names). n.equs) c.names.view_is)
    (c.operands_of-operands.ensures.operands ∙ ap (λ (ts : List Token). operands_of c.entry.inside.line.kind (pieces ts)) c.as_slice-tokens.ensures.value
    ∙ ap (λ (l : ExpandedLine). operands_of l.kind l.tokens) c.entry.view_is) c.written.ensures.work
