use Rattle.std.proofs.{Common.{sym, arith}, lemmas.List.{length-map, length-take-le, take_all, take-map}}
use Rattle.redcode_warnings.specs.Views.{note_of, notes}
use Rattle.redcode_warnings.proofs.warning.first_of.Goals as goal

pub slice_bounds-result-end : goal.slice_bounds-result-end
slice_bounds-result-end c = sym (length-take-le 100 c.args.found.now (omega (arith, c.if-found-le-WARNING_LIMIT.false)))

pub returns-then-found-le-WARNING_LIMIT : goal.returns-then-found-le-WARNING_LIMIT
returns-then-found-le-WARNING_LIMIT c = sym (take_all 100 (notes c.args.found.now) (omega (arith, c.if-found-le-WARNING_LIMIT.true, length-map c.args.found.now note_of)))

pub returns-else-found-le-WARNING_LIMIT : goal.returns-else-found-le-WARNING_LIMIT
returns-else-found-le-WARNING_LIMIT c = sym (take-map note_of 100 c.args.found.now)
