use Rattle.{redcode_text.specs.Tokens.pieces, redcode_expand.proofs.Cut.line-kept}
use Rattle.redcode_expand.proofs.walk.Walk.push.Goals as goal

pub returns-clause-pushed : goal.returns-clause-pushed
returns-clause-pushed g c =
    let inside = c.self.inside in
    line-kept c.args.number c.args.kind c.args.word c.args.title.now (pieces c.args.tokens.now) (pieces c.in_ok-tokens.tokens.items) inside.counted inside.before inside.names
    inside.entries.items c.push.new.self.items inside.ended c.args.self.now c.self.view_is c.in_ok-tokens.ensures c.in_ok-push.ensures.items
