use Rattle.std.proofs.lemmas.Grind.{common_steps}
use Rattle.std.proofs.Common.{arith, ap, sym, ◌∙◌}
use Rattle.mars_operations.{specs.Queue.waiting, proofs.Waiting.{exchanged, exchanged-size, parts-live, behind-parts}}
use Rattle.mars_operations.proofs.queue.Queue.exchange.Goals as goal

pub returns-clause-places : goal.returns-clause-places
returns-clause-places g c =
    let parts = parts-live _ _ _ _ c.self.view_is c.requires.lives in
    exchanged-size 512 512 c.args.count c.fill_from_slice.result c.read_into.result c.args.places.now c.read_into.new.dst c.self.inside.rest c.fill_from_slice.new.self c.read_into.new.self
    c.requires.places c.requires.count (omega (arith, c.requires.room)) c.fill_from_slice.ensures.count c.fill_from_slice.ensures.items c.read_into.ensures.count c.read_into.ensures.read c.read_into.ensures.items

pub returns-clause-value : goal.returns-clause-value
returns-clause-value g c =
    let parts = parts-live _ _ _ _ c.self.view_is c.requires.lives in
    ap (waiting 512 c.read_into.result _) (behind-parts c.self.inside.has_front c.self.inside.front c.read_into.new.self parts.0)
    ∙ (exchanged 512 512 c.args.count c.fill_from_slice.result c.read_into.result c.args.places.now c.read_into.new.dst c.self.inside.rest c.fill_from_slice.new.self c.read_into.new.self
    c.requires.places c.requires.count (omega (arith, c.requires.room)) c.fill_from_slice.ensures.count c.fill_from_slice.ensures.items c.read_into.ensures.count c.read_into.ensures.read c.read_into.ensures.items
    ∙ sym (ap (waiting 1024 c.args.count c.args.places.now) parts.1))

pub invariant_of-self : goal.invariant_of-self
invariant_of-self g c = grind (arith, common_steps)

pub returns-clause-count : goal.returns-clause-count
returns-clause-count g c = grind (arith, common_steps)

pub returns-clause-full : goal.returns-clause-full
returns-clause-full g c = grind (arith, common_steps)

pub returns-clause-all : goal.returns-clause-all
returns-clause-all g c = grind (arith, common_steps)
