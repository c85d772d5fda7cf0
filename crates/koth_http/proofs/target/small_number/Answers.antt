use Rattle.{std.proofs.Common.{◌∙◌, sym, arith}, koth_http.proofs.Numbers.{small-found, small-large, small-none}}
use Rattle.koth_http.proofs.target.small_number.Goals as goal

pub returns-in_err-number : goal.returns-in_err-number
returns-in_err-number c = c.from_residual.ensures ∙ sym (small-none c.args.text.now (sym c.number.ensures ∙ c.in_err-number.was))

pub returns-then-number-from : goal.returns-then-number-from
returns-then-number-from c = sym (small-found c.in_ok-number.number c.args.text.now (sym c.number.ensures ∙ c.in_ok-number.was) (omega arith))

pub returns-else-number-from : goal.returns-else-number-from
returns-else-number-from c = sym (small-large c.in_ok-number.number c.args.text.now (sym c.number.ensures ∙ c.in_ok-number.was) (omega arith))
