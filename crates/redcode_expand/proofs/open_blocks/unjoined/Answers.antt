use Rattle.{std.proofs.Common.{drop, false}, redcode_text.specs.Tokens.pieces, redcode_expand.proofs.PlacedNames.fewer-joined}
use Rattle.redcode_expand.proofs.open_blocks.unjoined.Goals as goal

pub returns-clause-front : goal.returns-clause-front
returns-clause-front g c =
    fewer-joined (drop c.args.from c.args.blocks.now) c.unjoined_in.result c.unjoined_in-front.result false (pieces c.args.line.front.now) c.unjoined_in.ensures.most
    c.unjoined_in-front.ensures.none
