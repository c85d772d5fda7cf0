use Rattle.{std.proofs.{lemmas.Grind.common_steps, Common.{arith, sym, ◌∙◌}}, redcode_text.specs.Tokens.piece_of, redcode_copies.proofs.Joining.{join-kept, token-kept}}
use Rattle.redcode_copies.proofs.copying.joined_tokens.Goals as goal

pub loop-rest-preserved-then-joins : goal.loop-rest-preserved-then-joins
loop-rest-preserved-then-joins g c =
    join-kept c.args.counter.now c.loop-rest.all.items _ c.loop-rest.is_joined (piece_of c.loop-rest.token) (piece_of c.in_ok-token.token) c.loop-rest.rest.now c.behind_first-rest.result.now
    (sym c.joins.ensures ∙ c.if-joins.true) c.in_ok-token.ensures c.behind_first-rest.ensures.behind c.loop-rest.invariant

pub loop-rest-preserved : goal.loop-rest-preserved
loop-rest-preserved g c =
    token-kept c.args.counter.now c.loop-rest.all.items c.push.new.self.items _ c.loop-rest.is_joined (piece_of c.loop-rest.token) c.loop-rest.rest.now _
    c.in-len1-up-rest.len_at_least (sym c.joins.ensures ∙ c.if-joins.false) c.in_ok-push.ensures.items c.loop-rest.invariant

pub returns : goal.returns
returns g c = grind (arith, common_steps)
