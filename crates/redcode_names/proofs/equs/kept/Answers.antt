use Rattle.std.proofs.{Common.{sym, arith}, lemmas.List.{length-map, length-take-le, take_all, take-map}}
use Rattle.redcode_text.specs.Tokens.{piece_of, pieces}
use Rattle.redcode_names.proofs.equs.kept.Goals as goal

pub slice_bounds-result-end : goal.slice_bounds-result-end
slice_bounds-result-end c = sym (length-take-le 513 c.args.body.now (omega (arith, c.if-body-le-MOST_TOKENS.false)))

pub returns-then-body-le-MOST_TOKENS : goal.returns-then-body-le-MOST_TOKENS
returns-then-body-le-MOST_TOKENS c = sym (take_all 513 (pieces c.args.body.now) (omega (arith, c.if-body-le-MOST_TOKENS.true, length-map c.args.body.now piece_of)))

pub returns-else-body-le-MOST_TOKENS : goal.returns-else-body-le-MOST_TOKENS
returns-else-body-le-MOST_TOKENS c = sym (take-map piece_of 513 c.args.body.now)
