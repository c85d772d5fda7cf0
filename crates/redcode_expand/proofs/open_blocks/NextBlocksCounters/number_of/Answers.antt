use Rattle.{std.proofs.{lemmas.Grind.common_steps, Common.{arith, List, drop, sym, ap, Some, ◌∙◌}}, redcode_copies.specs.Plain.number_of}
use Rattle.{redcode_expand.specs.Rest.{OpenBlock, counters_in}, redcode_expand.proofs.PlacedNames.{number-none, number-past, number-there, place-within}}
use Rattle.redcode_expand.proofs.open_blocks.NextBlocksCounters.number_of.Goals as goal

pub returns-in_err-place : goal.returns-in_err-place
returns-in_err-place g c =
    let name = c.args.name.now in
    c.from_residual.ensures
    ∙ sym (number-none (drop c.self.inside.from c.self.inside.blocks.now) name c.self.inside.count (sym c.place_from.ensures ∙ c.in_err-place.was))
    ∙ ap (λ (bs : List OpenBlock). number_of (counters_in bs) name) c.self.view_is

pub returns-then-place-self : goal.returns-then-place-self
returns-then-place-self g c =
    let name = c.args.name.now in
    sym (number-past (drop c.self.inside.from c.self.inside.blocks.now) name c.self.inside.count c.in_ok-place.place (sym c.place_from.ensures ∙ c.in_ok-place.was) c.if-place-self.true)
    ∙ ap (λ (bs : List OpenBlock). number_of (counters_in bs) name) c.self.view_is

pub overflow_add-block : goal.overflow_add-block
overflow_add-block g c = grind (arith, common_steps, place-within)

pub offset_bounds-self-inside-self-inside : goal.offset_bounds-self-inside-self-inside
offset_bounds-self-inside-self-inside g c = grind (arith, common_steps, place-within)

pub bounds-self-inside-self-inside : goal.bounds-self-inside-self-inside
bounds-self-inside-self-inside g c = place-within c.self.inside.blocks.now c.self.inside.from c.args.name.now c.in_ok-place.place (sym c.place_from.ensures ∙ c.in_ok-place.was)

pub returns : goal.returns
returns g c =
    let name = c.args.name.now in
    let from = c.self.inside.from in
    let place = c.in_ok-place.place in
    ap Some c.copy.ensures.number
    ∙ sym (number-there c.self.inside.blocks.now from name c.self.inside.count place c.index-self-self.result (sym c.place_from.ensures ∙ c.in_ok-place.was) c.if-place-self.false)
    ∙ ap (λ (bs : List OpenBlock). number_of (counters_in bs) name) c.self.view_is
