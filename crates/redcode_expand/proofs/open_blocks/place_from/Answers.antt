use Rattle.{std.proofs.{lemmas.Grind.common_steps, Common.{arith, sym, ◌∙◌}}, redcode_expand.proofs.PlacedNames.{none-drop, none-past, place-drop}}
use Rattle.redcode_expand.proofs.open_blocks.place_from.Goals as goal

pub returns-in_err-place : goal.returns-in_err-place
returns-in_err-place g c = c.from_residual.ensures ∙ sym (none-drop c.args.from c.args.blocks.now c.args.name.now (sym c.place_of.ensures ∙ c.in_err-place.was))

pub returns-then-place-from : goal.returns-then-place-from
returns-then-place-from g c = grind (arith, common_steps, place-drop)

pub returns-in-Some : goal.returns-in-Some
returns-in-Some g c = sym (none-past c.args.names.now.lasts c.args.blocks.now c.args.name.now _ c.args.from c.requires.placed.lasts (sym c.last_of.ensures ∙ c.in-Some.is) c.if-last-from.true)
