use Rattle.{std.proofs.Common.{◌∙◌, sym, rules}, koth_http.proofs.Numbers.{number-same, number-other, number-unread}}
use Rattle.koth_http.proofs.target.number.Goals as goal

pub returns-in_err-number : goal.returns-in_err-number
returns-in_err-number c = c.from_residual.ensures ∙ sym (number-unread c.number_read.result c.args.text.now c.number_read.ensures c.in_err-number.was)

pub returns-then-is_written : goal.returns-then-is_written
returns-then-is_written c = sym (number-same c.in_ok-number.number c.args.text.now (search rules) (sym c.is_written.ensures ∙ c.if-is_written.true))

pub returns-else-is_written : goal.returns-else-is_written
returns-else-is_written c =
    sym (number-other c.number_read.result c.in_ok-number.number c.args.text.now c.number_read.ensures c.in_ok-number.was
    (sym c.is_written.ensures ∙ c.if-is_written.false))
