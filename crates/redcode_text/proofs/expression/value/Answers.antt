use Rattle.{std.proofs.Common.{sym, arith}, redcode_text.proofs.Climbed.{value_is, value_with}}
use Rattle.redcode_text.proofs.expression.value.Goals as goal

pub returns-in_default : goal.returns-in_default
returns-in_default g c = sym (value_is (g.N.Names.values c.args.names.now) c.args.tokens.now _ c.in_default.ensures.climbs)

pub returns-then-is_empty : goal.returns-then-is_empty
returns-then-is_empty g c = let value = value_with (g.N.Names.values c.args.names.now) c.args.tokens.now _ _ c.in-Some.ensures.climbs in grind (arith, c.if-is_empty.ensures)

pub returns-else-is_empty : goal.returns-else-is_empty
returns-else-is_empty g c = let value = value_with (g.N.Names.values c.args.names.now) c.args.tokens.now _ _ c.in-Some.ensures.climbs in grind (arith, c.if-is_empty.ensures)
