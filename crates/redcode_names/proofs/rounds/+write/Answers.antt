-- What a token becomes is written, or refused; the others are left.
use Rattle.std.proofs.Common.{arith, ◌+◌}
use Rattle.{redcode_text.specs.Tokens.pieces, redcode_names.{specs.Steps.rounds_steps, proofs.{Replacing.further, Steps.{body-read, token-read}}}}
use Rattle.redcode_names.proofs.rounds.+write.Goals as goal

pub returns-then-rounds-eq0-clause-written : goal.returns-then-rounds-eq0-clause-written
returns-then-rounds-eq0-clause-written g t c = grind (arith, further)

pub returns-then-rounds-eq0-clause-work : goal.returns-then-rounds-eq0-clause-work
returns-then-rounds-eq0-clause-work g t c =
    let all = c.args.work.now + rounds_steps c.args.rounds c.args.equs.now (pieces c.args.tokens.now) in
    omega (
      arith,
      token-read c.args.rounds c.args.equs.now c.args.tokens.now c.loop-token.token-index _ c.work_of.result c.saturating_add.result c.loop-token.work all
          (omega (arith, c.loop-token-test.true)) c.work_of.ensures (omega (arith, c.saturating_add.ensures)) c.loop-token.invariant.1,
    )

pub returns-in_err-write-clause-written : goal.returns-in_err-write-clause-written
returns-in_err-write-clause-written g t c = grind (arith, further)

pub returns-in_err-write-clause-work : goal.returns-in_err-write-clause-work
returns-in_err-write-clause-work g t c =
    let all = c.args.work.now + rounds_steps c.args.rounds c.args.equs.now (pieces c.args.tokens.now) in
    omega (
      arith,
      body-read c.args.rounds c.args.equs.now c.args.tokens.now c.loop-token.token-index _ (pieces c.body_at-body.result.now) c.work_of.result c.saturating_add.result c.write.new.work
          c.loop-token.work all (omega (arith, c.loop-token-test.true)) (omega (arith, c.if-rounds-eq0.false)) c.work_of.ensures c.body_at-body.ensures.body c.body_at-body.ensures.kept
          (omega (arith, c.saturating_add.ensures)) c.write.ensures.work c.loop-token.invariant.1,
    )

pub loop-token-preserved-then-not-is_empty : goal.loop-token-preserved-then-not-is_empty
loop-token-preserved-then-not-is_empty g t c =
    let all = c.args.work.now + rounds_steps c.args.rounds c.args.equs.now (pieces c.args.tokens.now) in (
      grind (arith, further),
      body-read c.args.rounds c.args.equs.now c.args.tokens.now c.loop-token.token-index _ (pieces c.body_at-body.result.now) c.work_of.result c.saturating_add.result c.write.new.work
          c.loop-token.work all (omega (arith, c.loop-token-test.true)) (omega (arith, c.if-rounds-eq0.false)) c.work_of.ensures c.body_at-body.ensures.body c.body_at-body.ensures.kept
          (omega (arith, c.saturating_add.ensures)) c.write.ensures.work c.loop-token.invariant.1,
    )

pub returns-then-len-ge-TOKEN_LIMIT-clause-written : goal.returns-then-len-ge-TOKEN_LIMIT-clause-written
returns-then-len-ge-TOKEN_LIMIT-clause-written g t c = grind (arith, further)

pub returns-then-len-ge-TOKEN_LIMIT-clause-work : goal.returns-then-len-ge-TOKEN_LIMIT-clause-work
returns-then-len-ge-TOKEN_LIMIT-clause-work g t c =
    let all = c.args.work.now + rounds_steps c.args.rounds c.args.equs.now (pieces c.args.tokens.now) in
    omega (
      arith,
      token-read c.args.rounds c.args.equs.now c.args.tokens.now c.loop-token.token-index _ c.work_of.result c.saturating_add.result c.loop-token.work all
          (omega (arith, c.loop-token-test.true)) c.work_of.ensures (omega (arith, c.saturating_add.ensures)) c.loop-token.invariant.1,
    )

pub returns-in_err-push-clause-written : goal.returns-in_err-push-clause-written
returns-in_err-push-clause-written g t c = grind (arith, further)

pub returns-in_err-push-clause-work : goal.returns-in_err-push-clause-work
returns-in_err-push-clause-work g t c =
    let all = c.args.work.now + rounds_steps c.args.rounds c.args.equs.now (pieces c.args.tokens.now) in
    omega (
      arith,
      token-read c.args.rounds c.args.equs.now c.args.tokens.now c.loop-token.token-index _ c.work_of.result c.saturating_add.result c.loop-token.work all
          (omega (arith, c.loop-token-test.true)) c.work_of.ensures (omega (arith, c.saturating_add.ensures)) c.loop-token.invariant.1,
    )

pub loop-token-preserved : goal.loop-token-preserved
loop-token-preserved g t c =
    let all = c.args.work.now + rounds_steps c.args.rounds c.args.equs.now (pieces c.args.tokens.now) in (
      grind (arith, further),
      token-read c.args.rounds c.args.equs.now c.args.tokens.now c.loop-token.token-index _ c.work_of.result c.saturating_add.result c.loop-token.work all
          (omega (arith, c.loop-token-test.true)) c.work_of.ensures (omega (arith, c.saturating_add.ensures)) c.loop-token.invariant.1,
    )

pub returns-clause-written : goal.returns-clause-written
returns-clause-written g t c = grind (arith, further)

pub returns-clause-work : goal.returns-clause-work
returns-clause-work g t c = omega (arith, c.loop-token.invariant.1)
