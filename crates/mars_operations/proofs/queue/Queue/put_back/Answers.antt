use Rattle.std.proofs.lemmas.Grind.{common_steps}
use Rattle.std.proofs.Common.{ℕ, ◌+◌, min, ◌∷◌, List, Bool, arith, ap, ap₂, sym, ◌∙◌}
use Rattle.{circular_buffer.specs.Buffer.Buffer, mars_operations.{specs.Queue.{processes, processes_in, waiting}, proofs.Waiting.{closed, parts-live}}}
use Rattle.mars_operations.proofs.queue.Queue.put_back.Goals as goal

pub returns : goal.returns
returns g c =
    let parts = parts-live _ _ _ _ c.self.view_is c.requires.lives in
    ap₂ (λ (b : Bool) (rest : Buffer ℕ). processes_in b c.args.front rest) parts.0
    (closed c.args.head c.args.count c.min-end.result c.fill_from_slice.result c.args.places.now c.self.inside.rest c.fill_from_slice.new.self c.put_first.new.ring
    (omega (arith, c.requires.places, c.requires.head)) (c.min-end.ensures ∙ ap (min (c.args.head + c.args.count)) (sym c.requires.places)) (omega (arith, parts, c.requires.room))
    c.fill_from_slice.ensures.count c.fill_from_slice.ensures.items c.put_first.ensures)
    ∙ ap₂ (λ (limit : ℕ) (queue : List ℕ). processes limit (c.args.front ∷ waiting c.args.head c.args.count c.args.places.now queue)) (sym parts.2) (sym parts.1)

pub invariant_of-self : goal.invariant_of-self
invariant_of-self g c = grind (arith, common_steps)

pub put_first-requires : goal.put_first-requires
put_first-requires g c = grind (arith, common_steps)
