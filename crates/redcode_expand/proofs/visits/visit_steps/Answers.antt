use Rattle.{std.proofs.{Common.{arith, ◌+◌, ◌*◌, ◌/◌, ◌≤◌}, lemmas.List.length-map}, redcode_text.specs.Tokens.piece_of, redcode_lines.specs.Views.line_read}
use Rattle.redcode_expand.{specs.Steps.{bytes_of, tokens_of}, proofs.VisitSteps.visit-joins}
use Rattle.redcode_expand.proofs.visits.visit_steps.Goals as goal

pub returns-clause-most : goal.returns-clause-most
returns-clause-most c =
    let line = line_read c.args.line in
    let tokens = c.saturating_add-tokens.result in
    let times = c.saturating_add-times.result in
    let bytes = c.saturating_add-bytes.result in
    let few : tokens ≤ tokens_of line = omega (arith, c.saturating_add-tokens.ensures, length-map c.args.line.front.now piece_of, length-map c.args.line.tokens.now piece_of) in
    let read : bytes ≤ bytes_of line.front + bytes_of line.tokens = omega (arith, c.saturating_add-bytes.ensures, c.bytes_of.ensures, c.bytes_of-2.ensures) in
    let less : times ≤ c.args.blocks + bytes / 16 = omega (arith, c.saturating_add-times.ensures) in
    let product : c.saturating_mul.result ≤ tokens * times = omega (arith, c.saturating_mul.ensures) in
    omega (arith, c.saturating_add.ensures, c.read_steps-read.ensures.most, product, visit-joins c.args.blocks line tokens times bytes c.if-blocks-eq0.false (c.requires c.if-not-joins.false) few less read)
