use Rattle.{std.proofs.Common.{sym, ◌∙◌, arith}, redcode_lines.proofs.Readings.word-found}
use Rattle.redcode_lines.proofs.reading.word_in.Goals as goal

pub returns-in-Some : goal.returns-in-Some
returns-in-Some c =
    let is = sym c.word_at.ensures ∙ c.in-Some.is in
    let found = word-found c.args.tokens.now c.loop-i.i _ c.in-Some.word c.loop-i-test.true is c.loop-i.invariant.0 c.loop-i.invariant.1 in
    record { word = sym found.0; front = found.1; from = found.2; within = omega arith }
