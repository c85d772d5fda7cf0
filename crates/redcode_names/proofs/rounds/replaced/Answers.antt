use Rattle.{std.proofs.Common.{arith, sym, ◌∙◌}, redcode_text.specs.Tokens.pieces, redcode_names.proofs.Steps.replacing-all}
use Rattle.redcode_names.proofs.rounds.replaced.Goals as goal

pub returns-in_err-all-clause-work : goal.returns-in_err-all-clause-work
returns-in_err-all-clause-work g c = omega (arith, c.written.ensures.work, replacing-all c.args.equs.now (pieces c.args.tokens.now) (sym c.are_among.ensures ∙ c.if-not-are_among.false))

pub returns-clause-work : goal.returns-clause-work
returns-clause-work g c = omega (arith, c.written.ensures.work, replacing-all c.args.equs.now (pieces c.args.tokens.now) (sym c.are_among.ensures ∙ c.if-not-are_among.false))
