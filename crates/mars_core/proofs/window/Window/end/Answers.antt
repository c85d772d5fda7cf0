use Rattle.std.proofs.Common.{◌≤◌, ◌+◌, ◌-◌, ◌∷◌, length, arith, ap, ap₂, sym, ◌∙◌}
use Rattle.mars_core.{specs.{Queue.{Processes, processes, waiting, behind_front}, Round.is_empty}, proofs.Windows.{waiting-first, held-length, empty-list, filled-list, behind-length}}
use Rattle.mars_core.proofs.window.Window.end.Goals as goal

pub returns-then-self-eq0-clause-last : goal.returns-then-self-eq0-clause-last
returns-then-self-eq0-clause-last g c =
    let w = c.reach.new.self in
    let kept = c.reach.ensures.window in
    let none : length c.reach.new.queue.addresses ≤ 1 = grind (arith, kept.joined, c.reach.ensures.inside, c.if-self-eq0.true) in
    empty-list (waiting w.head w.count c.reach.new.places (behind_front c.reach.new.queue.addresses)) (omega (arith, held-length w c.reach.new.places c.reach.new.queue kept, none, c.if-self-eq0.true))
    ∙ ap (λ (q : Processes). is_empty (behind_front q.addresses)) c.reach.ensures.value

pub returns-clause-last : goal.returns-clause-last
returns-clause-last g c =
    let w = c.reach.new.self in
    let kept = c.reach.ensures.window in
    filled-list (waiting w.head w.count c.reach.new.places (behind_front c.reach.new.queue.addresses))
    (omega (arith, held-length w c.reach.new.places c.reach.new.queue kept, behind-length c.reach.new.queue.addresses kept.lives, c.if-self-eq0.false))
    ∙ ap (λ (q : Processes). is_empty (behind_front q.addresses)) c.reach.ensures.value

pub returns-clause-value : goal.returns-clause-value
returns-clause-value g c =
    let w = c.reach.new.self in
    let places = c.reach.new.places in
    let queue = behind_front c.reach.new.queue.addresses in
    let first = waiting-first w.head w.count places queue (omega (arith, c.reach.ensures.window.size, c.reach.ensures.inside)) (omega (arith, c.if-self-eq0.false)) in
    λ _. ap₂ processes c.reach.ensures.limit
    (ap (λ front. front ∷ waiting (w.head + 1) (w.count - 1) places queue) c.from-self.ensures
    ∙ (sym first ∙ ap (λ (q : Processes). behind_front q.addresses) c.reach.ensures.value))
