use Rattle.std.proofs.lemmas.Grind.{common_steps}
use Rattle.std.proofs.Common.{◌≡◌, ◌+◌, ◌-◌, ◌<◌, ◌++◌, ◌∷◌, [], length, take, arith, ap, ap₂, sym, ◌∙◌}
use Rattle.{circular_buffer.specs.Buffer.buffer, mars_operations.{specs.Queue.{behind_front, waiting}, proofs.Waiting.{taken, full, parts-live, behind-parts}}}
use Rattle.mars_operations.proofs.queue.Queue.take_in.Goals as goal

pub returns-then-count-room-clause-value : goal.returns-then-count-room-clause-value
returns-then-count-room-clause-value g c =
    let parts = parts-live c.self.inside.has_front c.self.inside.front c.self.inside.rest c.args.self.now c.self.view_is c.requires.lives in
    let size = ap length parts.1 in
    full c.args.head c.args.count c.args.behind (c.args.self.now.limit - 1) c.args.places.now (behind_front c.args.self.now.addresses)
    (omega (arith, c.requires.places, c.requires.head)) (omega (arith, c.requires.places, c.requires.count)) (omega (arith, size, parts, c.requires.room, c.if-count-room.true, c.room.ensures))

pub returns-clause-value : goal.returns-clause-value
returns-clause-value g c =
    let parts = parts-live c.self.inside.has_front c.self.inside.front c.self.inside.rest c.args.self.now c.self.view_is c.requires.lives in
    let past = c.args.head + c.args.count - 1024 in
    let capacity : c.self.inside.rest.capacity ≡ c.args.self.now.limit - 1 = omega (arith, parts) in
    let pushed : length c.fill_from_slice.new.self.items < c.fill_from_slice.new.self.capacity → c.try_push_back-queued.new.self ≡ buffer (c.fill_from_slice.new.self.items ++ c.args.behind ∷ []) c.fill_from_slice.new.self.capacity =
    λ h. grind (arith, h, c.try_push_back-queued.ensures) in
    ap (waiting c.args.head (c.args.count - past) c.args.places.now) (behind-parts c.self.inside.has_front c.self.inside.front c.try_push_back-queued.new.self parts.0)
    ∙ (taken c.args.head c.args.count past c.args.behind c.fill_from_slice.result c.args.places.now c.self.inside.rest c.fill_from_slice.new.self c.try_push_back-queued.new.self
    (omega (arith, c.requires.places, c.requires.head)) (omega (arith, c.requires.places, c.requires.past)) (omega (arith, c.requires.places, c.requires.count))
    (omega (arith, parts, c.if-count-room.false, c.room.ensures)) c.fill_from_slice.ensures.count c.fill_from_slice.ensures.items pushed
    ∙ ap₂ (λ n xs. take n (waiting c.args.head c.args.count c.args.places.now xs ++ c.args.behind ∷ [])) capacity (sym parts.1))

pub invariant_of-self : goal.invariant_of-self
invariant_of-self g c = grind (arith, common_steps)

pub returns-clause-room : goal.returns-clause-room
returns-clause-room g c = grind (arith, common_steps)

pub returns-clause-count : goal.returns-clause-count
returns-clause-count g c = grind (arith, common_steps)

pub returns-clause-past : goal.returns-clause-past
returns-clause-past g c = grind (arith, common_steps)
