use Rattle.{std.proofs.{lemmas.Grind.common_steps, Common.{arith, sym, ◌∙◌}}, redcode_expand.proofs.PlacedNames.{place-none, place-past, place-there, place-other}}
use Rattle.redcode_expand.proofs.open_blocks.place_of.Goals as goal

pub returns-in_err-place : goal.returns-in_err-place
returns-in_err-place g c =
    c.from_residual.ensures ∙ sym (place-none c.args.names.now.firsts c.args.blocks.now c.args.name.now c.requires.firsts (sym c.first_of.ensures ∙ c.in_err-place.was))

pub returns-then-place-blocks : goal.returns-then-place-blocks
returns-then-place-blocks g c =
    sym (place-past c.args.names.now.firsts c.args.blocks.now c.args.name.now c.in_ok-place.place c.requires.firsts (sym c.first_of.ensures ∙ c.in_ok-place.was) c.if-place-blocks.true)

pub returns-then-is_named : goal.returns-then-is_named
returns-then-is_named g c = grind (arith, common_steps, place-there)

pub returns-else-is_named : goal.returns-else-is_named
returns-else-is_named g c = grind (arith, common_steps, place-other)
